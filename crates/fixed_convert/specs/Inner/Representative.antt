-- A number that stands for one that may be too long for 128 bits.
use Rattle.std.specs.Prelude.{◌≡◌, ◌^◌, ℤ, pos, neg_ℤ, ◌≤ℤ◌, ◌<ℤ◌, ◌⊎◌}
use Rattle.fixed_bits.specs.Images.{DiffersByMultiple}

-- v and w are equal, or both are past the same end of every type of at most 64 bits
abbrev pub OnSameSide : ℤ → ℤ → Type 0
OnSameSide v w = (w ≡ v) ⊎ ((pos (2 ^ 64) ≤ℤ v) × (pos (2 ^ 64) ≤ℤ w))
    ⊎ ((v <ℤ neg_ℤ (pos (2 ^ 63))) × (w <ℤ neg_ℤ (pos (2 ^ 63))))

-- w has the images and the order of v in every type of at most 64 bits
pub record Represents (v w : ℤ) : Type 0 where
  pub near : DiffersByMultiple (2 ^ 64) w v
  pub side : OnSameSide v w
