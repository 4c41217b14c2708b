-- The numbers of a numeral's parts.
use Rattle.std.specs.Prelude.{◌≡◌, ℕ, ◌+◌, ◌*◌, ◌^◌, ◌<◌, Bool, true, false, length, Option, Some, None, ℤ, pos, ◌-ℤ◌}
use Rattle.std.specs.Str.Parse.{digits_value}
use Rattle.fixed_numeral.specs.declared.radix.Radix.{Radix}
use Rattle.fixed_numeral.specs.Numeral.{Parts, Exponent, base, is_minus, is_two_separator, exponent_number}
use Rattle.fixed_numeral.specs.Numeral.{fractional_digits}
use Rattle.fixed_numeral.specs.Value.{Fraction, scaled, magnitude}

-- the number of an exponent, or 0 without one
abbrev pub exponent_value : Option Exponent → ℤ
exponent_value None = pos 0
exponent_value (Some e) = exponent_number e

-- the exponent counts powers of two
abbrev pub is_power_of_two : Radix → Option Exponent → Bool
is_power_of_two r None = false
is_power_of_two r (Some e) = is_two_separator r e.separator

-- the magnitude, from the number of all mantissa digits, the count of fraction digits, and the exponent
abbrev pub placed_magnitude : Radix → ℕ → ℕ → ℤ → Bool → Fraction
placed_magnitude r digits places exponent false = scaled digits 1 (base r) (exponent -ℤ pos places)
placed_magnitude r digits places exponent true = scaled digits (base r ^ places) 2 exponent

-- p are the parts of a numeral, and these are their numbers
pub record IsShortNumeral (r : Radix) (p : Parts) (negative : Bool) (whole fraction places : ℕ) (exponent : ℤ)
    (scales_by_two : Bool) : Type 0 where
  pub sign : negative ≡ is_minus p.sign
  pub whole_number : whole ≡ digits_value (base r) p.whole
  pub fraction_number : fraction ≡ digits_value (base r) (fractional_digits p.fraction)
  pub fraction_length : places ≡ length (fractional_digits p.fraction)
  pub exponent_is : exponent ≡ exponent_value p.exponent
  pub separator : scales_by_two ≡ is_power_of_two r p.exponent
  pub value : magnitude r p ≡ placed_magnitude r (whole * base r ^ places + fraction) places exponent scales_by_two

-- the mantissa fits in sixteen digits, with fewer than sixteen after the point
pub record HasFewDigits (b whole fraction places : ℕ) : Type 0 where
  pub few : places < 16
  pub fits : whole * b ^ places + fraction < b ^ 16
