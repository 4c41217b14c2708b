-- The parts of a finite float, and the numbers that they read as.
use Rattle.std.specs.Prelude.{◌≡◌, ◌↔◌, ℕ, ◌+◌, ◌-◌, ◌*◌, ◌%◌, ◌^◌, ◌<◌, ◌≤◌, IsTrue}
use Rattle.fixed_bits.specs.Nearest.{IsNearest}
use Rattle.fixed_bits.specs.Numbers.{IsNumber, with_sign}
use Rattle.fixed_bits.specs.Rounded.{IsRounded}
use Rattle.fixed_bits.specs.declared.mode.ReadMode.{ReadMode}
use Rattle.fixed_bits.specs.declared.number.Number.{Number}
use Rattle.fixed_float.specs.Floats.{exponent_bits, fraction_bits, is_negative, precision, scale, significand}
use Rattle.fixed_float.specs.declared.layout.FloatFields.{FloatFields}
use Rattle.fixed_float.specs.declared.layout.FloatLayout.{FloatLayout}
use Rattle.fixed_float.specs.declared.short.ShortNumber.{ShortNumber}
use Rattle.fixed_read.specs.Reading.{IsMultipleOf, number_in}
use Rattle.fixed_read.specs.declared.read_number.ReadNumber.{ReadNumber}

-- fields are the parts of the float with these bits
pub record AreFields (layout : FloatLayout) (bits : ℕ) (fields : FloatFields) : Type 0 where
  pub significand_is : fields.significand ≡ significand layout bits
  pub scale_is : fields.scale ≡ scale layout bits
  pub sign_is : fields.negative ≡ is_negative layout bits
  pub few_bits : fields.significand < 2 ^ 53
  pub few_scales : fields.scale < 2 ^ 11

-- `found` holds significand * 2^(scale - unit), rounded to ulps of its format
pub record IsScaledReading (mode : ReadMode) (fields : FloatFields) (unit : ℕ) (found : ReadNumber) : Type 0 where
  pub ulps : ℕ
  pub rounded : IsRounded mode fields.negative (fields.significand * 2 ^ fields.scale * 2 ^ found.format.frac)
      (2 ^ unit) ulps
  pub holds : IsNumber (number_in found) (with_sign fields.negative ulps)
  pub sign : found.negative ≡ fields.negative
  pub exact : IsTrue found.exact
      ↔ IsMultipleOf (2 ^ unit) (fields.significand * 2 ^ fields.scale * 2 ^ found.format.frac)

-- `found` is significand * 2^(scale - unit), rounded to ulps of 2^-f
pub record IsShortOf (mode : ReadMode) (fields : FloatFields) (unit f : ℕ) (found : ShortNumber) : Type 0 where
  pub rounded : IsRounded mode fields.negative (fields.significand * 2 ^ fields.scale * 2 ^ f) (2 ^ unit)
      found.magnitude
  pub sign : found.negative ≡ fields.negative

-- the number has the lowest 64 bits of a magnitude, and says whether there are more
pub record IsLowOf (number : Number) (magnitude : ℕ) : Type 0 where
  pub low : number.low ≡ magnitude % 2 ^ 64
  pub over : IsTrue number.has_high_bits ↔ (2 ^ 64 ≤ magnitude)

-- the magnitude has `length` bits, at most 64
pub record HasLength (magnitude length : ℕ) : Type 0 where
  pub some : 0 < length
  pub most : length ≤ 64
  pub low : 2 ^ (length - 1) ≤ magnitude
  pub high : magnitude < 2 ^ length

-- significand is a magnitude of `length` bits rounded to `precision` bits, to the nearest, ties to even
pub record IsSignificand (precision magnitude length significand : ℕ) : Type 0 where
  pub least : 2 ^ (precision - 1) ≤ significand
  pub most : significand ≤ 2 ^ precision
  pub short : length ≤ precision → significand ≡ magnitude * 2 ^ (precision - length)
  pub long : precision < length → IsNearest magnitude (2 ^ (length - precision)) significand

-- bits is the float for magnitude / 2^f, without its sign
pub record IsMagnitudeFloat (layout : FloatLayout) (magnitude f bits : ℕ) : Type 0 where
  pub length : ℕ
  pub has_length : HasLength magnitude length
  pub significand : ℕ
  pub rounded : IsSignificand (precision layout) magnitude length significand
  pub bits_are : bits + f * 2 ^ fraction_bits layout
      ≡ (2 ^ (exponent_bits layout - 1) - 3 + length) * 2 ^ fraction_bits layout + significand
