-- The bits of numbers that every policy leaves as they are.
use Rattle.std.specs.Prelude.{ℤ, Option, Some, None}
use Rattle.fixed_bits.specs.Formats.{FormatParts}
use Rattle.fixed_bits.specs.Numbers.{with_sign}
use Rattle.fixed_float.specs.Kept.{IsKept}
use Rattle.fixed_float.specs.declared.short.ShortNumber.{ShortNumber}
use Rattle.fixed_c.specs.Numbers.{has_bits}

-- `bits` are those of a number that every policy keeps
pub record AreKept (f : FormatParts) (number : ShortNumber) (bits : ℤ) : Type 0 where
  pub kept : IsKept f number
  pub bits_are : has_bits f.signed bits (with_sign number.negative number.magnitude)

-- there is such a number
abbrev pub IsKeptOf : FormatParts → Option ShortNumber → ℤ → Type 0
IsKeptOf f None bits = ⊥
IsKeptOf f (Some number) bits = AreKept f number bits
