-- The results of calls that read texts into decimal formats, and that print their numbers.
use Rattle.std.specs.Prelude.{◌≡◌, ◌⊎◌, ◌≤◌, ℕ, ℤ, List, true}
use Rattle.fixed_bits.specs.Formats.{FormatParts}
use Rattle.fixed_bits.specs.declared.format.Policy.{Policy}
use Rattle.fixed_bits.specs.declared.mode.ReadMode.{ReadMode}
use Rattle.fixed_decimal.specs.Decimals.{IsReadDecimal}
use Rattle.fixed_decimal.specs.Texts.{decimal_format_text}
use Rattle.fixed_numeral.specs.Cause.{HasCause}
use Rattle.fixed_numeral.specs.Numeral.{Parts, HasNumeral}
use Rattle.fixed_numeral.specs.declared.error.ParseErrorKind.TheVariants.{Overflow}
use Rattle.fixed_numeral.specs.declared.radix.Radix.TheVariants.{Dec}
use Rattle.fixed_c.specs.Arguments.{NamesMode, NamesPolicy}
use Rattle.fixed_c.specs.Codes.{refusal_code}
use Rattle.fixed_c.specs.Floats.{NamesBoth}
use Rattle.fixed_c.specs.Numbers.{IsBrought, IsNotBrought}
use Rattle.fixed_c.specs.Outcome.{EndsWith, ForKind, Never, Unless}
use Rattle.fixed_c.specs.Rows.{PutsRow, no_number, text_of_row}
use Rattle.fixed_c.specs.declared.number.FixedNumber.{FixedNumber}
use Rattle.fixed_c.specs.declared.refusal.Refusal.{Refusal}
use Rattle.fixed_c.specs.declared.refusal.Refusal.TheVariants.{BadMode, BadPlaces, BadPolicy}

-- ---- reading
-- a valid decimal format has at most 18 places
abbrev pub NamesDecimal : ℕ → Type 0
NamesDecimal places = places ≤ 18

-- the numbers of a decimal format have 64 bits and a sign
abbrev pub words : FormatParts
words = record { signed = true; width = 64; frac = 0 }

-- the text is a numeral that is read as this number of units of 10^-places
pub record HasUnits (text : List ℕ) (places : ℕ) (m : ReadMode) (number : ℤ) : Type 0 where
  pub parts : Parts
  pub has : HasNumeral Dec text parts
  pub read : IsReadDecimal m parts places number

-- the places are valid, and the result is the image of the text's number in the format
pub record IsDecimalRead (text : List ℕ) (places : ℕ) (n : FixedNumber) (p : Policy) (m : ReadMode) : Type 0 where
  pub format : NamesDecimal places
  pub number : ℤ
  pub has : HasUnits text places m number
  pub brought : IsBrought words p number n.bits n.overflowed

-- the number of the text has no image in the format
pub record DecimalOverflows (text : List ℕ) (places : ℕ) (p : Policy) (m : ReadMode) : Type 0 where
  pub number : ℤ
  pub has : HasUnits text places m number
  pub out : IsNotBrought words p number

-- why there is no result: the text is not a numeral or, under `Checked`, its number is out of range
abbrev pub DecimalNotRead : List ℕ → ℕ → Policy → ReadMode → Refusal → Type 0
DecimalNotRead text places p m =
    ForKind (λ kind. HasCause Dec text kind ⊎ ((kind ≡ Overflow) × DecimalOverflows text places p m))

-- the refusal of a call with these arguments
abbrev pub DecimalIsRefused : List ℕ → ℕ → ℕ → ℕ → Refusal → Type 0
DecimalIsRefused text places policy mode =
    Unless (NamesDecimal places) BadPlaces
    (Unless (NamesPolicy policy) BadPolicy
    (Unless (NamesMode mode) BadMode
    (λ refusal. NamesBoth policy mode (λ p m. DecimalNotRead text places p m refusal))))

-- the single call that reads, for the text of a row
abbrev pub ReadsDecimalRow : List ℕ → ℕ → ℕ → ℕ → ℕ → ℕ → FixedNumber → ℕ → Type 0
ReadsDecimalRow rows size places policy mode i number code = EndsWith
    (λ n. NamesBoth policy mode (IsDecimalRead (text_of_row rows size i) places n))
    (DecimalIsRefused (text_of_row rows size i) places policy mode) no_number number code

-- ---- printing
-- the places are valid, and this is the text of the bits
pub record IsDecimalPrinted (bits : ℤ) (places : ℕ) (text : List ℕ) : Type 0 where
  pub format : NamesDecimal places
  pub text_is : text ≡ decimal_format_text bits places

-- the refusal of a call that prints
abbrev pub DecimalTextIsRefused : ℕ → Refusal → Type 0
DecimalTextIsRefused places = Unless (NamesDecimal places) BadPlaces Never

-- the text of the bits was put into the row; or the code is that of a refusal, and the row is unchanged
abbrev pub PrintsDecimal : ℕ → ℤ → List ℕ → List ℕ → ℕ → Type 0
PrintsDecimal places bits old new code =
    ((text : List ℕ) × IsDecimalPrinted bits places text × PutsRow text old new code)
    ⊎ ((refusal : Refusal) × (code ≡ refusal_code refusal) × DecimalTextIsRefused places refusal × (new ≡ old))
