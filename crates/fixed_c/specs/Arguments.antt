-- The meaning of the numbers that C passes.
use Rattle.std.specs.Prelude.{◌≡◌, ℕ}
use Rattle.fixed_bits.specs.Formats.{FormatParts, IsFormat}
use Rattle.fixed_bits.specs.declared.format.Policy.{Policy}
use Rattle.fixed_bits.specs.declared.mode.ReadMode.{ReadMode}
use Rattle.fixed_numeral.specs.Numeral.{base}
use Rattle.fixed_numeral.specs.declared.radix.Radix.{Radix}
use Rattle.fixed_c.specs.Codes.{mode_code, policy_code}

abbrev pub NamesRadix : ℕ → Type 0
NamesRadix code = (r : Radix) × (code ≡ base r)

abbrev pub NamesPolicy : ℕ → Type 0
NamesPolicy code = (p : Policy) × (code ≡ policy_code p)

abbrev pub NamesMode : ℕ → Type 0
NamesMode code = (m : ReadMode) × (code ≡ mode_code m)

abbrev pub NamesFormat : FormatParts → Type 0
NamesFormat f = IsFormat f.width f.frac

-- the three numbers name a radix, a policy and a mode, and these satisfy `Holds`
pub record Names (radix policy mode : ℕ) (Holds : Radix → Policy → ReadMode → Type 0) : Type 0 where
  pub the_radix : Radix
  pub the_policy : Policy
  pub the_mode : ReadMode
  pub radix_is : radix ≡ base the_radix
  pub policy_is : policy ≡ policy_code the_policy
  pub mode_is : mode ≡ mode_code the_mode
  pub holds : Holds the_radix the_policy the_mode
