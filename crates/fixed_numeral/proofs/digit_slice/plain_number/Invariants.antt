use Rattle.fixed_numeral.proofs.StripLemmas.{IsNumberOf}
use Rattle.fixed_numeral.proofs.digit_slice.plain_number.Given as goal

abbrev pub invariant-loop-b : goal.invariant-loop-b
invariant-loop-b l = IsNumberOf l.base l.start l.bytes l.b-index l.number
