-- A dial with the whole degrees from -128 to 127.
use Rattle.std.specs.Prelude.{◌≡◌, ℤ, pos, neg_ℤ, ◌^◌, ◌+ℤ◌, ◌*ℤ◌, ◌≤ℤ◌, ◌<ℤ◌}

-- degrees are reading / 2^16 rounded down, or the nearer end of the dial
pub record IsOnDial (reading degrees : ℤ) : Type 0 where
  pub low : reading <ℤ neg_ℤ (pos (2 ^ 23)) → degrees ≡ neg_ℤ (pos 128)
  pub high : pos (2 ^ 23) ≤ℤ reading → degrees ≡ pos 127
  pub at_most : neg_ℤ (pos (2 ^ 23)) ≤ℤ reading → (degrees *ℤ pos (2 ^ 16)) ≤ℤ reading
  pub above : reading <ℤ pos (2 ^ 23) → reading <ℤ ((degrees +ℤ pos 1) *ℤ pos (2 ^ 16))
