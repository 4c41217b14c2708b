use Rattle.std.proofs.Common.{◌≡◌, ℕ, arith}
use Rattle.fixed_write.specs.Inner.Fraction.{IsPaddedFraction}
use Rattle.fixed_write.proofs.PaddedLemmas.{padded_longer, padded_shorter, padded_ends}
use Rattle.fixed_write.proofs.exponent.fraction_of.Goals as goal

zero_last : {c g n p d : ℕ} → d ≡ 0 → IsPaddedFraction c g n p d → IsPaddedFraction c g n p 0
zero_last e h = rw e at h

pub zeros-init : goal.zeros-init
zeros-init c = c.padded_fraction-fraction.ensures

pub overflow_sub-fraction : goal.overflow_sub-fraction
overflow_sub-fraction c = padded_longer _ _ _ _ (zero_last c.zeros-test.true c.zeros.invariant) c.requires.some

pub zeros-smaller : goal.zeros-smaller
zeros-smaller c = omega (arith, padded_longer _ _ _ _ (zero_last c.zeros-test.true c.zeros.invariant) c.requires.some)

pub zeros-preserved : goal.zeros-preserved
zeros-preserved c =
    let last = zero_last c.zeros-test.true c.zeros.invariant in
    padded_shorter _ _ _ _ last (padded_longer _ _ _ _ last c.requires.some)

pub returns : goal.returns
returns c = padded_ends _ _ _ _ _ c.zeros.invariant c.zeros-test.false
