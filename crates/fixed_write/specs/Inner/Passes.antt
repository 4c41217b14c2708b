-- The invariant of a pass over the digits after the point.
use Rattle.std.specs.Prelude.{◌≡◌, ℕ, ◌+◌, ◌*◌, ◌^◌, ◌<◌, ◌≤◌}
use Rattle.fixed_write.specs.Shortest.{ReadsBack}

-- the invariant after k digits after the point, in units u = 2^g and with s = 10^k:
-- w is the whole part, d the digits after the point as one number, and r the rest
pub record Pass (c g u w r d s k : ℕ) : Type 0 where
  pub unit : u ≡ 2 ^ g
  pub in_ulps : k ≤ g
  pub scale : s ≡ 10 ^ k
  pub left : r < u
  pub digits : d < s
  pub split : c * s ≡ (w * s + d) * u + r
  pub none : (i j : ℕ) → j < k → ReadsBack i j c g → ⊥
