-- What is checked once, before floats are read.
use Rattle.std.specs.Prelude.{◌≡◌, ℕ, List, slice_index}
use Rattle.fixed_bits.specs.Formats.{FormatParts}
use Rattle.fixed_float.specs.declared.layout.FloatLayout.{FloatLayout}
use Rattle.fixed_c.specs.Arguments.{NamesFormat, NamesMode, NamesPolicy}
use Rattle.fixed_c.specs.Codes.{mode_code, policy_code}
use Rattle.fixed_c.specs.Floats.{FloatNotRead, IsFloatRead}
use Rattle.fixed_c.specs.Outcome.{EndsWith, Never, Unless}
use Rattle.fixed_c.specs.Rows.{no_number}
use Rattle.fixed_c.specs.declared.floats.FloatAsked.{FloatAsked}
use Rattle.fixed_c.specs.declared.number.FixedNumber.{FixedNumber}
use Rattle.fixed_c.specs.declared.refusal.Refusal.{Refusal}
use Rattle.fixed_c.specs.declared.refusal.Refusal.TheVariants.{BadFormat, BadPolicy, BadMode}

-- these numbers name the requested reading
pub record AreFloatNamed (f : FormatParts) (policy mode : ℕ) (asked : FloatAsked) : Type 0 where
  pub format_is : asked.format ≡ f
  pub format_named : NamesFormat f
  pub policy_is : policy ≡ policy_code asked.policy
  pub mode_is : mode ≡ mode_code asked.mode

-- the first number that names nothing is refused
abbrev pub IsFloatUnnamed : FormatParts → ℕ → ℕ → Refusal → Type 0
IsFloatUnnamed f policy mode =
    Unless (NamesFormat f) BadFormat (Unless (NamesPolicy policy) BadPolicy (Unless (NamesMode mode) BadMode Never))

-- a float is read as requested
abbrev pub IsFloatReadAsAsked : FloatLayout → ℕ → FloatAsked → FixedNumber → Type 0
IsFloatReadAsAsked layout float asked n = IsFloatRead layout float asked.format n asked.policy asked.mode

-- a float is not read as requested, for this refusal
abbrev pub IsFloatNotReadAsAsked : FloatLayout → ℕ → FloatAsked → Refusal → Type 0
IsFloatNotReadAsAsked layout float asked = FloatNotRead layout float asked.format asked.policy asked.mode

-- a float of a row is read as requested, or refused
abbrev pub ReadsFloatAsked : FloatLayout → List ℕ → FloatAsked → ℕ → FixedNumber → ℕ → Type 0
ReadsFloatAsked layout floats asked i number code = EndsWith (IsFloatReadAsAsked layout (slice_index floats i) asked)
    (IsFloatNotReadAsAsked layout (slice_index floats i) asked) no_number number code
