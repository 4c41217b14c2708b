use Rattle.std.proofs.Common.{◌≡◌, take, []}
use Rattle.fixed_numeral.specs.Digits.{digits_in}
use Rattle.fixed_numeral.proofs.digit_slice.DigitSlice.first.Given as goal

abbrev pub invariant-loop-i : goal.invariant-loop-i
invariant-loop-i l = digits_in (take l.i l.bytes) ≡ []
