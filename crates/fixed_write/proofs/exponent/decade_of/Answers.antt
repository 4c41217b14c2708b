use Rattle.std.proofs.Common.{arith, add-one}
use Rattle.fixed_write.proofs.LeadingLemmas.{decade_none, decade_more, decade_low, decade_high, decade_few}
use Rattle.fixed_write.proofs.exponent.decade_of.Goals as goal

pub digits-init : goal.digits-init
digits-init c = decade_none _ c.requires

pub overflow_add-others : goal.overflow_add-others
overflow_add-others c = omega (arith, decade_few _ _ _ c.ranges.number.fits c.digits.invariant)

pub digits-preserved : goal.digits-preserved
digits-preserved c = rw add-one (decade_more _ _ _ c.digits.invariant c.digits-test.true)

pub returns : goal.returns
returns c = record {
  low = decade_low _ _ _ c.digits.invariant;
  high = decade_high _ _ _ c.digits.invariant c.digits-test.false;
  few = decade_few _ _ _ c.ranges.number.fits c.digits.invariant;
}
