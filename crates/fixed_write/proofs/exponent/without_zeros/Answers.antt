use Rattle.std.proofs.Common.{arith, add-one}
use Rattle.fixed_write.proofs.FigureLemmas.{stripped_none, stripped_more, stripped_few}
use Rattle.fixed_write.proofs.exponent.without_zeros.Goals as goal

pub zeros-init : goal.zeros-init
zeros-init c = stripped_none _ c.requires

pub overflow_add-zeros : goal.overflow_add-zeros
overflow_add-zeros c = omega (arith, stripped_few _ _ _ c.ranges.number.fits c.zeros.invariant)

pub zeros-smaller : goal.zeros-smaller
zeros-smaller c = omega (arith, c.zeros.invariant.some)

pub zeros-preserved : goal.zeros-preserved
zeros-preserved c = rw add-one (stripped_more _ _ _ c.zeros.invariant c.zeros-test.true)

pub returns : goal.returns
returns c = record {
  number = c.zeros.invariant.value;
  last = c.zeros-test.false;
  few = stripped_few _ _ _ c.ranges.number.fits c.zeros.invariant;
}
