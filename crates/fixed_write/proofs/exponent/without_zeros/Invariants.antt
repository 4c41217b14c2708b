use Rattle.fixed_write.proofs.FigureLemmas.{Stripped}
use Rattle.fixed_write.proofs.exponent.without_zeros.Given as goal

abbrev pub invariant-zeros : goal.invariant-zeros
invariant-zeros l = Stripped l.number l.left l.zeros

abbrev pub decreases-zeros : goal.decreases-zeros
decreases-zeros l = l.left
