-- The order of values across formats.
use Rattle.std.specs.Prelude.{ℕ, ◌^◌, ℤ, pos, ◌*ℤ◌}
use Rattle.std.specs.declared.cmp.Ordering.{Ordering}
use Rattle.std.specs.Ordering.{int_cmp}

-- a number, as its bits b and its fraction length f: its value is b / 2^f
pub record Number : Type 0 where
  pub bits : ℤ
  pub frac : ℕ

-- the order of b / 2^f and c / 2^g is that of b * 2^g and c * 2^f
unfoldable pub order_of : ℤ → ℕ → ℤ → ℕ → Ordering
order_of b f c g = int_cmp (b *ℤ pos (2 ^ g)) (c *ℤ pos (2 ^ f))

-- the order of two numbers
unfoldable pub order : Number → Number → Ordering
order x y = order_of x.bits x.frac y.bits y.frac
