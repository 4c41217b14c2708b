use Rattle.std.proofs.Common.{arith, add-one, refl}
use Rattle.fixed_write.proofs.LeadingLemmas.{below_starts, below_few, below_more, leading_below}
use Rattle.fixed_write.proofs.exponent.leading_below_one.Goals as goal

pub zeros-init : goal.zeros-init
zeros-init c = below_starts _ _ _ c.ranges.rest.fits c.scaled-digit.ensures.whole c.scaled-digit.ensures.rest

pub overflow_add-shift : goal.overflow_add-shift
overflow_add-shift c = omega (arith, c.zeros.invariant.few)

pub zeros-smaller : goal.zeros-smaller
zeros-smaller c = omega (arith, below_few _ _ _ _ c.requires c.zeros.invariant c.zeros-test.true)

pub zeros-preserved : goal.zeros-preserved
zeros-preserved c =
    rw add-one (below_more _ _ _ _ _ _ c.requires c.zeros.invariant c.zeros-test.true c.scaled-next.ensures.whole c.scaled-next.ensures.rest)

pub returns : goal.returns
returns c = leading_below 0 _ _ _ _ refl c.zeros.invariant c.zeros-test.false
