-- The explanation of a numeral whose number is out of range.
use Rattle.std.specs.Prelude.{◌≡◌, ℕ, List, ◌++◌, true, codes, if◌then◌else◌}
use Rattle.fixed_bits.specs.Ranges.{greatest, lowest}
use Rattle.fixed_bits.specs.declared.mode.ReadMode.{ReadMode}
use Rattle.fixed_bits.specs.declared.number.Number.{Number}
use Rattle.fixed_decimal.specs.Decimals.{IsDecimalReading}
use Rattle.fixed_decimal.specs.Texts.{decimal_format_text}
use Rattle.fixed_decimal.specs.declared.number.DecimalNumber.{DecimalNumber}
use Rattle.fixed_numeral.specs.Numeral.{HasNumeral, Parts}
use Rattle.fixed_numeral.specs.declared.radix.Radix.TheVariants.{Dec}
use Rattle.fixed_write.specs.Texts.{decimal_text}
use Rattle.fixed_amounts.specs.Names.{name_text}

-- the least and the greatest amount of a format
abbrev pub least_text : ℕ → List ℕ
least_text places = decimal_format_text (lowest true 64) places

abbrev pub greatest_text : ℕ → List ℕ
greatest_text places = decimal_format_text (greatest true 64) places

-- the range that a format holds
abbrev pub holds_text : ℕ → List ℕ
holds_text places = name_text places ++ (codes " holds " ++ (least_text places
    ++ (codes " to " ++ greatest_text places)))

-- the number that was reached
abbrev pub reached_text : Number → ℕ → List ℕ
reached_text number places = if number.has_high_bits then codes "a number of more than 64 bits"
    else decimal_text number.negative number.low places

-- the text gives the number that was reached, and the range of the format that it did not fit
pub record ExplainsOverflow (mode : ReadMode) (places : ℕ) (bytes text : List ℕ) : Type 0 where
  pub parts : Parts
  pub numeral : HasNumeral Dec bytes parts
  pub found : DecimalNumber
  pub reading : IsDecimalReading mode parts found
  pub is_format : found.format ≡ places
  pub text_is : text ≡ codes ", reached " ++ (reached_text found.number places ++ (codes ", " ++ holds_text places))
