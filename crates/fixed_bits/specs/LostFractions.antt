-- The fraction of a unit that rounding down loses.
use Rattle.std.specs.Prelude.{◌≡◌, ℕ, ◌*◌, ◌<◌}
use Rattle.fixed_bits.specs.declared.rounding.LostFraction.{LostFraction}
use Rattle.fixed_bits.specs.declared.rounding.LostFraction.TheVariants.{Zero, LessThanHalf, Half, MoreThanHalf}

-- s / den of a unit is lost
abbrev pub IsLostFraction : LostFraction → ℕ → ℕ → Type 0
IsLostFraction Zero s den = s ≡ 0
IsLostFraction LessThanHalf s den = (0 < s) × (2 * s < den)
IsLostFraction Half s den = 2 * s ≡ den
IsLostFraction MoreThanHalf s den = (den < 2 * s) × (s < den)

-- a fraction of this kind, in quarters
abbrev pub quarters : LostFraction → ℕ
quarters Zero = 0
quarters LessThanHalf = 1
quarters Half = 2
quarters MoreThanHalf = 3
