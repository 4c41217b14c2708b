-- The number that a float's bits stand for, and its read number.
use Rattle.std.specs.Prelude.{◌≡◌, ◌↔◌, ℕ, ◌+◌, ◌-◌, ◌*◌, ◌/◌, ◌%◌, ◌^◌, ◌<◌, ◌==◌, ℤ, Bool, IsTrue, if◌then◌else◌}
use Rattle.fixed_bits.specs.Numbers.{IsNumber, with_sign}
use Rattle.fixed_bits.specs.Rounded.{IsRounded}
use Rattle.fixed_bits.specs.declared.mode.ReadMode.{ReadMode}
use Rattle.fixed_float.specs.declared.layout.FloatLayout.{FloatLayout}
use Rattle.fixed_float.specs.declared.layout.FloatLayout.TheVariants.{Binary32, Binary64}
use Rattle.fixed_numeral.specs.Value.{Fraction}
use Rattle.fixed_read.specs.Reading.{IsMultipleOf, number_in}
use Rattle.fixed_read.specs.declared.read_number.ReadNumber.{ReadNumber}

-- ---- the bits of a float: from the lowest up the fraction, the exponent and the sign
abbrev pub fraction_bits : FloatLayout → ℕ
fraction_bits Binary32 = 23
fraction_bits Binary64 = 52

abbrev pub exponent_bits : FloatLayout → ℕ
exponent_bits Binary32 = 8
exponent_bits Binary64 = 11

abbrev pub bits_of_float : FloatLayout → ℕ
bits_of_float layout = fraction_bits layout + exponent_bits layout + 1

abbrev pub fraction_field : FloatLayout → ℕ → ℕ
fraction_field layout bits = bits % 2 ^ fraction_bits layout

abbrev pub exponent_field : FloatLayout → ℕ → ℕ
exponent_field layout bits = bits / 2 ^ fraction_bits layout % 2 ^ exponent_bits layout

abbrev pub is_negative : FloatLayout → ℕ → Bool
is_negative layout bits = bits / 2 ^ (fraction_bits layout + exponent_bits layout) % 2 == 1

-- ---- their number
-- only infinities and NaNs have an exponent of all ones
abbrev pub IsFinite : FloatLayout → ℕ → Type 0
IsFinite layout bits = exponent_field layout bits < 2 ^ exponent_bits layout - 1

-- a one stands before the fraction, except in zeros and subnormals, whose exponent is 0
abbrev pub significand : FloatLayout → ℕ → ℕ
significand layout bits = (if exponent_field layout bits == 0 then 0 else 2 ^ fraction_bits layout)
    + fraction_field layout bits

-- the number of bits of a significand
abbrev pub precision : FloatLayout → ℕ
precision layout = fraction_bits layout + 1

-- zeros and subnormals have the scale of the least normal floats
abbrev pub scale : FloatLayout → ℕ → ℕ
scale layout bits = if exponent_field layout bits == 0 then 1 else exponent_field layout bits

-- the scale at which a significand is the number itself: the exponent's bias plus the fraction's bits
abbrev pub unit_scale : FloatLayout → ℕ
unit_scale layout = 2 ^ (exponent_bits layout - 1) - 1 + fraction_bits layout

-- the float is significand * 2^(scale - unit_scale), with its sign
unfoldable pub magnitude : FloatLayout → ℕ → Fraction
magnitude layout bits = record { num = significand layout bits * 2 ^ scale layout bits; den = 2 ^ unit_scale layout }

-- ---- reading
-- v is the read number of a float: its magnitude in ulps of 2^-f, rounded in the mode, with its sign
pub record IsReadFloat (mode : ReadMode) (layout : FloatLayout) (bits f : ℕ) (v : ℤ) : Type 0 where
  pub ulps : ℕ
  pub rounded : IsRounded mode (is_negative layout bits) ((magnitude layout bits).num * 2 ^ f)
      (magnitude layout bits).den ulps
  pub value : v ≡ with_sign (is_negative layout bits) ulps

-- the float is a whole number of ulps of 2^-f
abbrev pub IsWholeFloat : FloatLayout → ℕ → ℕ → Type 0
IsWholeFloat layout bits f = IsMultipleOf (magnitude layout bits).den ((magnitude layout bits).num * 2 ^ f)

-- `found` holds the read number of a float, and says whether the float is a whole number of ulps
pub record IsFloatReading (mode : ReadMode) (layout : FloatLayout) (bits : ℕ) (found : ReadNumber) : Type 0 where
  pub number : ℤ
  pub read : IsReadFloat mode layout bits found.format.frac number
  pub holds : IsNumber (number_in found) number
  pub sign : found.negative ≡ is_negative layout bits
  pub exact : IsTrue found.exact ↔ IsWholeFloat layout bits found.format.frac
