-- The result of a call that reads a literal.
use Rattle.std.specs.Prelude.{◌≡◌, ◌⊎◌, ℕ, ℤ, List}
use Rattle.fixed_bits.specs.Formats.{FormatParts}
use Rattle.fixed_bits.specs.declared.format.Policy.{Policy}
use Rattle.fixed_bits.specs.declared.mode.ReadMode.TheVariants.{NearestEven}
use Rattle.fixed_numeral.specs.Literal.{HasLiteral, HasLiteralCause, literal_radix}
use Rattle.fixed_numeral.specs.declared.error.ParseErrorKind.{ParseErrorKind}
use Rattle.fixed_numeral.specs.declared.error.ParseErrorKind.TheVariants.{Overflow}
use Rattle.fixed_c.specs.Arguments.{NamesFormat, NamesPolicy}
use Rattle.fixed_c.specs.Codes.{policy_code}
use Rattle.fixed_c.specs.Outcome.{ForKind, Unless}
use Rattle.fixed_c.specs.Read.{IsReadBy, OverflowsBy}
use Rattle.fixed_c.specs.declared.refusal.Refusal.{Refusal}
use Rattle.fixed_c.specs.declared.refusal.Refusal.TheVariants.{BadFormat, BadPolicy}

-- the text is a literal, and the result is the image in the format of its number, rounded to nearest with ties to even
pub record IsLiteralReadAs (text : List ℕ) (f : FormatParts) (policy : ℕ) (bits : ℤ) (flag : ℕ) : Type 0 where
  pub the_policy : Policy
  pub policy_is : policy ≡ policy_code the_policy
  pub read : IsReadBy (HasLiteral f.signed text) f bits flag (literal_radix f.signed text) the_policy NearestEven

-- why there is no result: the text is not a literal or, under `Checked`, its number is out of range
abbrev pub IsLiteralNotRead : List ℕ → FormatParts → Policy → ParseErrorKind → Type 0
IsLiteralNotRead text f p kind = HasLiteralCause f.signed text kind
    ⊎ ((kind ≡ Overflow) × OverflowsBy (HasLiteral f.signed text) f (literal_radix f.signed text) p NearestEven)

-- the refusal of a call with these arguments
abbrev pub LiteralIsRefused : List ℕ → FormatParts → ℕ → Refusal → Type 0
LiteralIsRefused text f policy =
    Unless (NamesFormat f) BadFormat
    (Unless (NamesPolicy policy) BadPolicy
    (ForKind (λ kind. (p : Policy) × (policy ≡ policy_code p) × IsLiteralNotRead text f p kind)))
