-- What is checked once, before decimals are read.
use Rattle.std.specs.Prelude.{◌≡◌, ℕ, List}
use Rattle.fixed_c.specs.Arguments.{NamesMode, NamesPolicy}
use Rattle.fixed_c.specs.Codes.{mode_code, policy_code}
use Rattle.fixed_c.specs.Decimals.{DecimalNotRead, IsDecimalRead, NamesDecimal}
use Rattle.fixed_c.specs.Outcome.{EndsWith, Never, Unless}
use Rattle.fixed_c.specs.Rows.{no_number, text_of_row}
use Rattle.fixed_c.specs.declared.decimals.DecimalAsked.{DecimalAsked}
use Rattle.fixed_c.specs.declared.number.FixedNumber.{FixedNumber}
use Rattle.fixed_c.specs.declared.refusal.Refusal.{Refusal}
use Rattle.fixed_c.specs.declared.refusal.Refusal.TheVariants.{BadMode, BadPlaces, BadPolicy}

-- these numbers name the requested reading
pub record AreDecimalNamed (places policy mode : ℕ) (asked : DecimalAsked) : Type 0 where
  pub format_is : asked.format ≡ places
  pub format_named : NamesDecimal places
  pub policy_is : policy ≡ policy_code asked.policy
  pub mode_is : mode ≡ mode_code asked.mode

-- the first number that names nothing is refused
abbrev pub IsDecimalUnnamed : ℕ → ℕ → ℕ → Refusal → Type 0
IsDecimalUnnamed places policy mode =
    Unless (NamesDecimal places) BadPlaces
    (Unless (NamesPolicy policy) BadPolicy
    (Unless (NamesMode mode) BadMode Never))

-- a text is read as requested
abbrev pub IsDecimalReadAsAsked : List ℕ → DecimalAsked → FixedNumber → Type 0
IsDecimalReadAsAsked text asked n = IsDecimalRead text asked.format n asked.policy asked.mode

-- a text is not read as requested, for this refusal
abbrev pub IsDecimalNotReadAsAsked : List ℕ → DecimalAsked → Refusal → Type 0
IsDecimalNotReadAsAsked text asked = DecimalNotRead text asked.format asked.policy asked.mode

-- a row is read as requested, or refused
abbrev pub ReadsDecimalAsked : List ℕ → ℕ → DecimalAsked → ℕ → FixedNumber → ℕ → Type 0
ReadsDecimalAsked rows size asked i number code = EndsWith (IsDecimalReadAsAsked (text_of_row rows size i) asked)
    (IsDecimalNotReadAsAsked (text_of_row rows size i) asked) no_number number code
