-- The whole part of b / 2^f in a format of n bits, and the value rounded towards zero.
use Rattle.std.specs.Prelude.{ℕ, zero, suc, ◌+◌, ◌*◌, ◌/◌, ◌^◌, ◌==◌, ℤ, pos, negsuc, neg_ℤ, if◌then◌else◌}
use Rattle.fixed_round.specs.Whole.{whole_bits}
use Rattle.fixed_round.specs.declared.rounding.Rounding.TheVariants.{Floor}

-- 0 if the format has no whole bits, else the bits of the floor
unfoldable pub int_bits : ℕ → ℤ → ℕ → ℤ
int_bits n b f = if f == n then pos 0 else whole_bits Floor b f

-- the bits of the magnitude rounded down to a whole number, with the sign
unfoldable pub round_to_zero_bits : ℤ → ℕ → ℤ
round_to_zero_bits (pos a) f = pos (a / 2 ^ f * 2 ^ f)
round_to_zero_bits (negsuc a) f = neg_ℤ (pos (suc a / 2 ^ f * 2 ^ f))
