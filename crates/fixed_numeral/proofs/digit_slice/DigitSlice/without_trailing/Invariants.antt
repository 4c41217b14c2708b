use Rattle.fixed_numeral.proofs.StripLemmas.{IsTrailed}
use Rattle.fixed_numeral.proofs.digit_slice.DigitSlice.without_trailing.Given as goal

abbrev pub invariant-loop-end : goal.invariant-loop-end
invariant-loop-end l = IsTrailed l.bytes l.end l.zeros

abbrev pub decreases-loop-end : goal.decreases-loop-end
decreases-loop-end l = l.end
