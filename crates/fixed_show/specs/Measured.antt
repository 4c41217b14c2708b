-- The error of a numeral alone, as its block gives it.
use Rattle.std.specs.Prelude.{◌≡◌, ℕ, List, ℤ, Bool}
use Rattle.fixed_bits.specs.Formats.{FormatParts}
use Rattle.fixed_bits.specs.Ranges.{IsWidth}
use Rattle.fixed_bits.specs.declared.format.Policy.{Policy}
use Rattle.fixed_bits.specs.declared.mode.ReadMode.{ReadMode}
use Rattle.fixed_numeral.specs.declared.error.ParseErrorKind.{ParseErrorKind}
use Rattle.fixed_numeral.specs.declared.radix.Radix.{Radix}
use Rattle.fixed_show.specs.ShortError.{IsErrorText}
use Rattle.fixed_show.specs.ShowBlock.{IsReadAs, IsUnread}
use Rattle.fixed_show.specs.declared.form.Form.TheVariants.{Lines}
use Rattle.fixed_show.specs.declared.measure.Measure.{Measure}

-- the text is the error of the bits that a numeral is read as, by a measure
pub record IsMeasuredError (m : Measure) (mode : ReadMode) (r : Radix) (bytes : List ℕ) (f : FormatParts)
    (policy : Policy) (text : List ℕ) : Type 0 where
  pub bits : ℤ
  pub overflowed : Bool
  pub read : IsReadAs mode r bytes f policy bits overflowed
  pub is_error : IsErrorText Lines m r read.parts f.frac bits text

-- a numeral has one error by a measure, or one kind of refusal
pub record MeasuredErrorIsTheOne : Type 0 where
  pub error : (m : Measure) (mode : ReadMode) (r : Radix) (bytes : List ℕ) (f : FormatParts) (policy : Policy)
      (text other : List ℕ) → IsWidth f.width → IsMeasuredError m mode r bytes f policy text
      → IsMeasuredError m mode r bytes f policy other → text ≡ other
  pub refusal : (mode : ReadMode) (r : Radix) (bytes : List ℕ) (f : FormatParts) (policy : Policy)
      (kind other : ParseErrorKind) → IsUnread mode r bytes f policy kind → IsUnread mode r bytes f policy other
      → kind ≡ other
  pub apart : (m : Measure) (mode : ReadMode) (r : Radix) (bytes : List ℕ) (f : FormatParts) (policy : Policy)
      (kind : ParseErrorKind) (text : List ℕ) → IsUnread mode r bytes f policy kind
      → IsMeasuredError m mode r bytes f policy text → ⊥
