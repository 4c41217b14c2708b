-- Bits and formats as C has them.
use Rattle.std.specs.Prelude.{◌≡◌, ◌⊎◌, ◌↔◌, ◌≤ℤ◌, ◌<ℤ◌, ℕ, ℤ, Bool, true, false, pos, ◌+ℤ◌, ◌^◌, ◌==◌, if◌then◌else◌}
use Rattle.std.specs.Prelude.{IsTrue}
use Rattle.fixed_bits.specs.Formats.{FormatParts}
use Rattle.fixed_bits.specs.Images.{IsImage, IsOutOfRangeBy}
use Rattle.fixed_bits.specs.Ranges.{IsInRange, IsOutOfRange}
use Rattle.fixed_bits.specs.declared.format.Policy.{Policy}
use Rattle.fixed_bits.specs.declared.format.Policy.TheVariants.{Checked}

-- 64 bits, read by a sign rule, are this number
abbrev pub has_bits : Bool → ℤ → ℤ → Type 0
has_bits true bits number = number ≡ bits
has_bits false bits number = (pos 0 ≤ℤ number) × (number <ℤ pos (2 ^ 64))
    × ((number ≡ bits) ⊎ (number ≡ bits +ℤ pos (2 ^ 64)))

-- the bits are a number that the format holds
pub record AreBitsOf (f : FormatParts) (bits number : ℤ) : Type 0 where
  pub in_range : IsInRange f.signed f.width number
  pub bits_are : has_bits f.signed bits number

-- the bits are some number that the format holds
abbrev pub AreBits : FormatParts → ℤ → Type 0
AreBits f bits = (number : ℤ) × AreBitsOf f bits number

-- 1 for true and 0 for false
abbrev pub flag_of : Bool → ℕ
flag_of true = 1
flag_of false = 0

-- the bits are those of the number's image in the format, and the flag says whether the number is out of the range that
-- the policy leaves
pub record IsBrought (f : FormatParts) (p : Policy) (number bits : ℤ) (flag : ℕ) : Type 0 where
  pub image : ℤ
  pub image_is : IsImage p f.signed f.width number image
  pub bits_are : has_bits f.signed bits image
  pub overflowed : Bool
  pub flag_is : flag ≡ flag_of overflowed
  pub overflowed_is : IsTrue overflowed ↔ IsOutOfRangeBy p f.signed f.width number

-- the policy is `Checked`, and the number is out of the format's range
pub record IsNotBrought (f : FormatParts) (p : Policy) (number : ℤ) : Type 0 where
  pub checked : p ≡ Checked
  pub out : IsOutOfRange f.signed f.width number

-- a format as C passes it, which is signed if the first number is not 0
abbrev pub format_of : ℕ → ℕ → ℕ → FormatParts
format_of sign width frac = record { signed = if sign == 0 then false else true; width = width; frac = frac }
