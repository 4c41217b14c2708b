use Rattle.std.proofs.Common.{◌-◌}
use Rattle.fixed_write.proofs.LeadingLemmas.{Below}
use Rattle.fixed_write.proofs.exponent.leading_below_one.Given as goal

abbrev pub invariant-zeros : goal.invariant-zeros
invariant-zeros l = Below l.rest l.shift l.digit l.left

abbrev pub decreases-zeros : goal.decreases-zeros
decreases-zeros l = 20 - l.shift
