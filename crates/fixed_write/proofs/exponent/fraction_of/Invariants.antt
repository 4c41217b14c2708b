use Rattle.fixed_write.specs.Inner.Fraction.{IsPaddedFraction}
use Rattle.fixed_write.proofs.exponent.fraction_of.Given as goal

abbrev pub invariant-zeros : goal.invariant-zeros
invariant-zeros l = IsPaddedFraction l.magnitude l.frac l.fraction.number l.fraction.places l.fraction.digit

abbrev pub decreases-zeros : goal.decreases-zeros
decreases-zeros l = l.fraction.places
