-- Numbers that every policy leaves as they are.
use Rattle.std.specs.Prelude.{◌≡◌, ℕ, false}
use Rattle.fixed_bits.specs.Formats.{FormatParts, IsFormat}
use Rattle.fixed_bits.specs.Images.{IsInRangeBy}
use Rattle.fixed_bits.specs.Numbers.{greatest_magnitude, with_sign}
use Rattle.fixed_bits.specs.declared.format.Policy.{Policy}
use Rattle.fixed_float.specs.declared.short.ShortNumber.{ShortNumber}

-- the greatest magnitude of the format's numbers but for the lowest of a signed one
pub record IsGreatestKept (f : FormatParts) (greatest : ℕ) : Type 0 where
  pub format : IsFormat f.width f.frac
  pub value : greatest ≡ greatest_magnitude f.signed false f.width

-- the number is in range under each policy
pub record IsKept (f : FormatParts) (number : ShortNumber) : Type 0 where
  pub format : IsFormat f.width f.frac
  pub in_range : (p : Policy) → IsInRangeBy p f.signed f.width (with_sign number.negative number.magnitude)
