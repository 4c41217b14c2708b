use Rattle.fixed_numeral.proofs.StripLemmas.{IsLed}
use Rattle.fixed_numeral.proofs.digit_slice.DigitSlice.without_leading.Given as goal

abbrev pub invariant-loop-i : goal.invariant-loop-i
invariant-loop-i l = IsLed l.bytes l.i l.zeros
