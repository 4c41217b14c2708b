-- The result of a call that reads a text into one format and rounds the number down to another.
use Rattle.std.specs.Prelude.{◌≡◌, ℕ, ℤ, List, Bool}
use Rattle.fixed_bits.specs.Formats.{FormatParts}
use Rattle.fixed_bits.specs.declared.format.Policy.{Policy}
use Rattle.fixed_bits.specs.declared.mode.ReadMode.{ReadMode}
use Rattle.fixed_numeral.specs.declared.error.ParseErrorKind.{ParseErrorKind}
use Rattle.fixed_numeral.specs.declared.radix.Radix.{Radix}
use Rattle.fixed_respell.specs.Reached.{IsRefusal, IsRespelled}
use Rattle.fixed_c.specs.Arguments.{NamesFormat, Names, NamesRadix, NamesPolicy, NamesMode}
use Rattle.fixed_c.specs.Numbers.{flag_of, has_bits}
use Rattle.fixed_c.specs.Outcome.{ForKind, Unless}
use Rattle.fixed_c.specs.declared.refusal.Refusal.{Refusal}
use Rattle.fixed_c.specs.declared.refusal.Refusal.TheVariants.{BadRadix, BadFormat, BadTarget, BadPolicy, BadMode}

-- both formats are valid, the bits are those reached from the text, and the flag says whether a number on the way was
-- out of its format
pub record IsReachedAs (text : List ℕ) (source target : FormatParts) (bits : ℤ) (flag : ℕ) (r : Radix) (p : Policy)
    (m : ReadMode) : Type 0 where
  pub source_format : NamesFormat source
  pub target_format : NamesFormat target
  pub number : ℤ
  pub overflowed : Bool
  pub reached : IsRespelled m r text p source target number overflowed
  pub bits_are : has_bits target.signed bits number
  pub flag_is : flag ≡ flag_of overflowed

-- why no bits are reached
abbrev pub IsNotReached : List ℕ → FormatParts → FormatParts → ParseErrorKind → Radix → Policy → ReadMode → Type 0
IsNotReached text source target kind r p m = IsRefusal m r text p source target kind

-- the refusal of a call with these arguments
abbrev pub RespellIsRefused : List ℕ → ℕ → FormatParts → FormatParts → ℕ → ℕ → Refusal → Type 0
RespellIsRefused text radix f g policy mode =
    Unless (NamesRadix radix) BadRadix
    (Unless (NamesFormat f) BadFormat
    (Unless (NamesFormat g) BadTarget
    (Unless (NamesPolicy policy) BadPolicy
    (Unless (NamesMode mode) BadMode
    (ForKind (λ kind. Names radix policy mode (IsNotReached text f g kind)))))))
