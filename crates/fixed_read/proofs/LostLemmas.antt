-- Lost fractions in parts of an ulp.
use Rattle.std.proofs.Common.{◌≡◌, ℕ, ◌+◌, ◌*◌, ◌%◌, ◌<◌, ◌≤◌, ◌⊎◌, arith, ⊎_elim, mul-le-mul_right}
use Rattle.std.proofs.lemmas.Bool.{cases_lt}
use Rattle.fixed_bits.specs.LostFractions.{IsLostFraction}
use Rattle.fixed_bits.specs.Nearest.{IsNearest}
use Rattle.fixed_bits.specs.declared.rounding.LostFraction.{LostFraction}
use Rattle.fixed_bits.specs.declared.rounding.LostFraction.TheVariants.{LessThanHalf, MoreThanHalf}

pub tail_within : (t : LostFraction) (s den : ℕ) → 0 < den → IsLostFraction t s den → s < den
tail_within LessThanHalf s den p h = omega (arith, h.1)
tail_within MoreThanHalf s den p h = h.1
tail_within x s den p h = omega arith

-- ---- the nearest whole number, by what is lost
module _ (q s den odd : ℕ) (some : 0 < den) where
  pub near_nothing : s ≡ 0 → IsNearest (q * den + s) den (q + 0)
  near_nothing h = record { near = omega arith; tie = λ e. absurd (omega arith) }

  pub near_below : (0 < s) × (2 * s < den) → IsNearest (q * den + s) den (q + 0)
  near_below h = record { near = omega (arith, h.1); tie = λ e. absurd (omega (arith, h.1)) }

  pub near_above : (den < 2 * s) × (s < den) → IsNearest (q * den + s) den (q + 1)
  near_above h = record { near = omega (arith, h.0, h.1); tie = λ e. absurd (omega (arith, h.0, h.1)) }

  pub near_half : odd < 2 → q % 2 ≡ odd → 2 * s ≡ den → IsNearest (q * den + s) den (q + odd)
  near_half small e h = ⊎_elim
      (λ (l : odd < 1). let z : odd ≡ 0 = omega arith in rw z (record { near = omega arith; tie = λ k. omega arith }))
      (λ (l : 1 ≤ odd). let z : odd ≡ 1 = omega arith in rw z (record { near = omega arith; tie = λ k. omega arith }))
      (cases_lt odd 1)

pub ruleset nearest_by_lost = (near_nothing, near_below, near_above, near_half)

-- ---- the block's rest and the digits after it
module _ (rest half d y : ℕ) (low : y < d) where
  pub tail_above : rest < 2 * half → (half < rest) ⊎ ((half ≤ rest) × (0 < y)) → (2 * half * d < 2 * (rest * d + y)) × (rest * d + y < 2 * half * d)
  tail_above l big = (
    ⊎_elim (λ (r : half < rest). omega (arith, mul-le-mul_right d r)) (λ (m : (half ≤ rest) × (0 < y)). omega (arith, mul-le-mul_right d m.0, m.1)) big,
    omega (arith, mul-le-mul_right d l),
  )
