-- Numbers to be converted to a format, as sign and magnitude.
use Rattle.std.specs.Prelude.{◌≡◌, ℕ, ◌+◌, ◌-◌, ◌*◌, ◌^◌, ◌<◌, ◌↔◌, ℤ, pos, neg_ℤ, Bool, true, false}
use Rattle.std.specs.Prelude.{if◌then◌else◌, IsTrue}
use Rattle.fixed_bits.specs.Formats.{FormatParts}
use Rattle.fixed_bits.specs.Images.{IsImage}
use Rattle.fixed_bits.specs.declared.format.Policy.{Policy}
use Rattle.fixed_bits.specs.declared.format.Policy.TheVariants.{Checked, Saturating, Wrapping, Symmetric}
use Rattle.fixed_bits.specs.declared.number.Image.{Image}
use Rattle.fixed_bits.specs.declared.number.Number.{Number}

-- m, negated if `negative`
abbrev pub with_sign : Bool → ℕ → ℤ
with_sign negative m = if negative then neg_ℤ (pos m) else pos m

-- v has the number's sign and the lowest 64 bits of its magnitude, and higher bits exactly if `has_high_bits`
pub record IsNumber (number : Number) (v : ℤ) : Type 0 where
  pub high : ℕ
  pub value : v ≡ with_sign number.negative (high * 2 ^ 64 + number.low)
  pub over : IsTrue number.has_high_bits ↔ (0 < high)

-- the greatest magnitude in range, given whether the format is signed and whether the number is negative
abbrev pub greatest_magnitude : Bool → Bool → ℕ → ℕ
greatest_magnitude true true n = 2 ^ (n - 1)
greatest_magnitude true false n = 2 ^ (n - 1) - 1
greatest_magnitude false true n = 0
greatest_magnitude false false n = 2 ^ n - 1

-- the greatest magnitude that the policy allows
abbrev pub greatest_magnitude_by : Policy → Bool → Bool → ℕ → ℕ
greatest_magnitude_by Checked signed negative n = greatest_magnitude signed negative n
greatest_magnitude_by Saturating signed negative n = greatest_magnitude signed negative n
greatest_magnitude_by Wrapping signed negative n = greatest_magnitude signed negative n
greatest_magnitude_by Symmetric true negative n = 2 ^ (n - 1) - 1
greatest_magnitude_by Symmetric false negative n = greatest_magnitude false negative n

-- the number that an image holds
abbrev pub number_of_image : Image → ℤ
number_of_image image = with_sign image.negative image.magnitude

-- the policy refuses the number: it is Checked, and the number is out of range
abbrev pub IsRefused : Policy → Bool → Type 0
IsRefused policy is_out = (policy ≡ Checked) × IsTrue is_out

-- the image of v in the format, unless the policy refuses it
abbrev pub IsImageUnlessRefused : Policy → FormatParts → ℤ → Image → Type 0
IsImageUnlessRefused policy f v image =
    ¬ IsRefused policy image.is_out_of_range → IsImage policy f.signed f.width v (number_of_image image)
