-- The read number of a numeral, and its bits.
use Rattle.std.specs.Prelude.{◌≡◌, ℕ, ◌*◌, ◌^◌, ◌↔◌, ℤ, Bool, IsTrue}
use Rattle.fixed_bits.specs.Images.{IsImage, IsWrapped}
use Rattle.fixed_bits.specs.Numbers.{IsNumber}
use Rattle.fixed_bits.specs.Ranges.{IsInRange, IsOutOfRange}
use Rattle.fixed_bits.specs.Rounded.{IsRounded}
use Rattle.fixed_bits.specs.declared.format.Policy.{Policy}
use Rattle.fixed_bits.specs.declared.number.Number.{Number}
use Rattle.fixed_bits.specs.declared.mode.ReadMode.{ReadMode}
use Rattle.fixed_numeral.specs.Numeral.{Parts, is_minus, signed}
use Rattle.fixed_numeral.specs.Value.{magnitude}
use Rattle.fixed_numeral.specs.declared.radix.Radix.{Radix}
use Rattle.fixed_read.specs.declared.read_number.ReadNumber.{ReadNumber}

-- v is the read number of a numeral with these parts: its magnitude in ulps of 2^-f, rounded in the mode, with its sign
pub record IsReadNumber (mode : ReadMode) (r : Radix) (p : Parts) (f : ℕ) (v : ℤ) : Type 0 where
  pub ulps : ℕ
  pub rounded : IsRounded mode (is_minus p.sign) ((magnitude r p).num * 2 ^ f) (magnitude r p).den ulps
  pub value : v ≡ signed p.sign ulps

-- m is a multiple of d
abbrev pub IsMultipleOf : ℕ → ℕ → Type 0
IsMultipleOf d m = (k : ℕ) × (m ≡ k * d)

-- the numeral is a whole number of ulps of 2^-f
abbrev pub IsWholeUlps : Radix → Parts → ℕ → Type 0
IsWholeUlps r p f = IsMultipleOf (magnitude r p).den ((magnitude r p).num * 2 ^ f)

-- the number that `found` holds
abbrev pub number_in : ReadNumber → Number
number_in found = record { low = found.low; negative = found.negative; has_high_bits = found.has_high_bits }

-- `found` holds the read number of a numeral with these parts, and says whether the numeral is a whole number of ulps
pub record IsReading (mode : ReadMode) (r : Radix) (p : Parts) (found : ReadNumber) : Type 0 where
  pub number : ℤ
  pub read : IsReadNumber mode r p found.format.frac number
  pub holds : IsNumber (number_in found) number
  pub sign : found.negative ≡ is_minus p.sign
  pub exact : IsTrue found.exact ↔ IsWholeUlps r p found.format.frac

-- bits is the Wrapping image of the read number, and overflowed says whether that is out of range
pub record IsOverflowingRead (mode : ReadMode) (r : Radix) (p : Parts) (f : ℕ) (sign : Bool) (n : ℕ) (bits : ℤ)
    (overflowed : Bool) : Type 0 where
  pub number : ℤ
  pub read : IsReadNumber mode r p f number
  pub image : IsWrapped sign n number bits
  pub flag : IsTrue overflowed ↔ IsOutOfRange sign n number

-- bits is the image of the read number under the policy
pub record IsImageRead (policy : Policy) (mode : ReadMode) (r : Radix) (p : Parts) (f : ℕ) (sign : Bool) (n : ℕ)
    (bits : ℤ) : Type 0 where
  pub number : ℤ
  pub read : IsReadNumber mode r p f number
  pub image : IsImage policy sign n number bits

-- the bytes have parts, by HasNumeral or HasLiteral, whose read number is in range
pub record IsReadInRange (mode : ReadMode) (r : Radix) (Has : Parts → Type 0) (f : ℕ) (sign : Bool)
    (n : ℕ) : Type 0 where
  pub parts : Parts
  pub has : Has parts
  pub number : ℤ
  pub read : IsReadNumber mode r parts f number
  pub in_range : IsInRange sign n number

-- the bytes have parts whose read number is out of range
pub record IsReadOutOfRange (mode : ReadMode) (r : Radix) (Has : Parts → Type 0) (f : ℕ) (sign : Bool)
    (n : ℕ) : Type 0 where
  pub parts : Parts
  pub has : Has parts
  pub number : ℤ
  pub read : IsReadNumber mode r parts f number
  pub out_of_range : IsOutOfRange sign n number
