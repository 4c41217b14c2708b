-- The number that a decimal numeral reads as in a decimal format.
use Rattle.std.specs.Prelude.{◌≡◌, ◌↔◌, ℕ, ◌*◌, ◌^◌, ℤ, IsTrue}
use Rattle.fixed_bits.specs.Numbers.{IsNumber}
use Rattle.fixed_bits.specs.Rounded.{IsRounded}
use Rattle.fixed_bits.specs.declared.mode.ReadMode.{ReadMode}
use Rattle.fixed_decimal.specs.declared.number.DecimalNumber.{DecimalNumber}
use Rattle.fixed_numeral.specs.Numeral.{Parts, is_minus, signed}
use Rattle.fixed_numeral.specs.Value.{magnitude}
use Rattle.fixed_numeral.specs.declared.radix.Radix.TheVariants.{Dec}

-- v is the read number of a numeral with these parts: its magnitude in units of 10^-n, rounded in the mode, with its
-- sign
pub record IsReadDecimal (mode : ReadMode) (p : Parts) (n : ℕ) (v : ℤ) : Type 0 where
  pub units : ℕ
  pub rounded : IsRounded mode (is_minus p.sign) ((magnitude Dec p).num * 10 ^ n) (magnitude Dec p).den units
  pub value : v ≡ signed p.sign units

-- num / den is a whole number
abbrev pub IsWhole : ℕ → ℕ → Type 0
IsWhole num den = (k : ℕ) × (num ≡ k * den)

-- the numeral is a whole number of units of 10^-n
abbrev pub IsWholeUnits : Parts → ℕ → Type 0
IsWholeUnits p n = IsWhole ((magnitude Dec p).num * 10 ^ n) (magnitude Dec p).den

-- `found` holds the read number of a numeral with these parts, and says whether the numeral is a whole number of units
pub record IsDecimalReading (mode : ReadMode) (p : Parts) (found : DecimalNumber) : Type 0 where
  pub number : ℤ
  pub read : IsReadDecimal mode p found.format number
  pub holds : IsNumber found.number number
  pub sign : found.number.negative ≡ is_minus p.sign
  pub exact : IsTrue found.exact ↔ IsWholeUnits p found.format
