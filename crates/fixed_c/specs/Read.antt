-- The result of a call that reads a text into a format.
use Rattle.std.specs.Prelude.{◌≡◌, ◌⊎◌, ℕ, ℤ, List}
use Rattle.fixed_bits.specs.Formats.{FormatParts}
use Rattle.fixed_bits.specs.declared.format.Policy.{Policy}
use Rattle.fixed_bits.specs.declared.mode.ReadMode.{ReadMode}
use Rattle.fixed_numeral.specs.Cause.{HasCause}
use Rattle.fixed_numeral.specs.Numeral.{Parts, HasNumeral}
use Rattle.fixed_numeral.specs.declared.error.ParseErrorKind.{ParseErrorKind}
use Rattle.fixed_numeral.specs.declared.error.ParseErrorKind.TheVariants.{Overflow}
use Rattle.fixed_numeral.specs.declared.radix.Radix.{Radix}
use Rattle.fixed_read.specs.Reading.{IsReadNumber}
use Rattle.fixed_c.specs.Arguments.{NamesFormat, Names, NamesRadix, NamesPolicy, NamesMode}
use Rattle.fixed_c.specs.Numbers.{IsBrought, IsNotBrought}
use Rattle.fixed_c.specs.Outcome.{ForKind, Unless}
use Rattle.fixed_c.specs.declared.refusal.Refusal.{Refusal}
use Rattle.fixed_c.specs.declared.refusal.Refusal.TheVariants.{BadRadix, BadFormat, BadPolicy, BadMode}

-- a text with these parts has this number in a format
pub record HasNumber (Has : Parts → Type 0) (f : FormatParts) (r : Radix) (m : ReadMode) (number : ℤ) : Type 0 where
  pub parts : Parts
  pub has : Has parts
  pub read : IsReadNumber m r parts f.frac number

-- the format is valid, and the result is the image in it of the number of a text with these parts
pub record IsReadBy (Has : Parts → Type 0) (f : FormatParts) (bits : ℤ) (flag : ℕ) (r : Radix) (p : Policy)
    (m : ReadMode) : Type 0 where
  pub format : NamesFormat f
  pub number : ℤ
  pub has : HasNumber Has f r m number
  pub brought : IsBrought f p number bits flag

-- the number of a text with these parts has no image in the format
pub record OverflowsBy (Has : Parts → Type 0) (f : FormatParts) (r : Radix) (p : Policy) (m : ReadMode) : Type 0 where
  pub number : ℤ
  pub has : HasNumber Has f r m number
  pub out : IsNotBrought f p number

-- the text is a numeral, and the result is the image of its rounded number in the format
abbrev pub IsReadAs : List ℕ → FormatParts → ℤ → ℕ → Radix → Policy → ReadMode → Type 0
IsReadAs text f bits flag r p m = IsReadBy (HasNumeral r text) f bits flag r p m

-- why there is no result: the text is not a numeral or, under `Checked`, its rounded number is out of range
abbrev pub IsNotRead : List ℕ → FormatParts → ParseErrorKind → Radix → Policy → ReadMode → Type 0
IsNotRead text f kind r p m = HasCause r text kind ⊎ ((kind ≡ Overflow) × OverflowsBy (HasNumeral r text) f r p m)

-- the refusal of a call with these arguments
abbrev pub ReadIsRefused : List ℕ → ℕ → FormatParts → ℕ → ℕ → Refusal → Type 0
ReadIsRefused text radix f policy mode =
    Unless (NamesRadix radix) BadRadix
    (Unless (NamesFormat f) BadFormat
    (Unless (NamesPolicy policy) BadPolicy
    (Unless (NamesMode mode) BadMode
    (ForKind (λ kind. Names radix policy mode (IsNotRead text f kind))))))
