-- What is checked once, before texts are read.
use Rattle.std.specs.Prelude.{◌≡◌, ℕ, List}
use Rattle.fixed_bits.specs.Formats.{FormatParts}
use Rattle.fixed_numeral.specs.Numeral.{base}
use Rattle.fixed_c.specs.Arguments.{NamesFormat, NamesMode, NamesPolicy, NamesRadix}
use Rattle.fixed_c.specs.Codes.{mode_code, policy_code, refusal_code}
use Rattle.fixed_c.specs.Outcome.{EndsWith, ForKind, Never, Unless}
use Rattle.fixed_c.specs.Read.{IsNotRead, IsReadAs}
use Rattle.fixed_c.specs.Rows.{no_number, text_of_row}
use Rattle.fixed_c.specs.declared.asked.Asked.{Asked}
use Rattle.fixed_c.specs.declared.number.FixedNumber.{FixedNumber}
use Rattle.fixed_c.specs.declared.refusal.Refusal.{Refusal}
use Rattle.fixed_c.specs.declared.refusal.Refusal.TheVariants.{BadRadix, BadFormat, BadPolicy, BadMode}

-- these numbers name the requested reading
pub record AreNamed (radix : ℕ) (f : FormatParts) (policy mode : ℕ) (asked : Asked) : Type 0 where
  pub radix_is : radix ≡ base asked.radix
  pub format_is : asked.format ≡ f
  pub format_named : NamesFormat f
  pub policy_is : policy ≡ policy_code asked.policy
  pub mode_is : mode ≡ mode_code asked.mode

-- the first number that names nothing is refused
abbrev pub IsUnnamed : ℕ → FormatParts → ℕ → ℕ → Refusal → Type 0
IsUnnamed radix f policy mode =
    Unless (NamesRadix radix) BadRadix
    (Unless (NamesFormat f) BadFormat
    (Unless (NamesPolicy policy) BadPolicy
    (Unless (NamesMode mode) BadMode Never)))

-- a text is read as requested
abbrev pub IsReadAsAsked : List ℕ → Asked → FixedNumber → Type 0
IsReadAsAsked text asked n = IsReadAs text asked.format n.bits n.overflowed asked.radix asked.policy asked.mode

-- a text is not read as requested, for this refusal
abbrev pub IsNotReadAsAsked : List ℕ → Asked → Refusal → Type 0
IsNotReadAsAsked text asked = ForKind
    (λ kind. IsNotRead text asked.format kind asked.radix asked.policy asked.mode)

-- a row is read as requested, or refused
abbrev pub ReadsAskedRow : List ℕ → ℕ → Asked → ℕ → FixedNumber → ℕ → Type 0
ReadsAskedRow rows size asked i number code = EndsWith (IsReadAsAsked (text_of_row rows size i) asked)
    (IsNotReadAsAsked (text_of_row rows size i) asked) no_number number code

-- a row is refused, and its number is zero
abbrev pub RefusesRow : Refusal → ℕ → FixedNumber → ℕ → Type 0
RefusesRow refusal i number code = (code ≡ refusal_code refusal) × (number ≡ no_number)
