-- The result of a call that rounds bits to a whole number.
use Rattle.std.specs.Prelude.{◌≡◌, ℕ, ℤ}
use Rattle.fixed_bits.specs.Formats.{FormatParts}
use Rattle.fixed_bits.specs.declared.format.Policy.{Policy}
use Rattle.fixed_numeral.specs.declared.error.ParseErrorKind.TheVariants.{Overflow}
use Rattle.fixed_round.specs.Parts.{round_to_zero_bits}
use Rattle.fixed_round.specs.Whole.{whole_bits}
use Rattle.fixed_round.specs.declared.rounding.Rounding.TheVariants.{Ceil, Floor, Round, RoundTiesEven}
use Rattle.fixed_c.specs.Arguments.{NamesFormat, NamesPolicy}
use Rattle.fixed_c.specs.Codes.{policy_code}
use Rattle.fixed_c.specs.Numbers.{AreBits, AreBitsOf, IsBrought, IsNotBrought}
use Rattle.fixed_c.specs.Outcome.{ForKind, Unless}
use Rattle.fixed_c.specs.declared.refusal.Refusal.{Refusal}
use Rattle.fixed_c.specs.declared.refusal.Refusal.TheVariants.{BadFormat, BadPolicy, BadBits, BadRounding}
use Rattle.fixed_c.specs.declared.rounding.WholeRounding.{WholeRounding}
use Rattle.fixed_c.specs.declared.rounding.WholeRounding.TheVariants.{By, ToZero}

abbrev pub rounding_code : WholeRounding → ℕ
rounding_code (By Ceil) = 0
rounding_code (By Floor) = 1
rounding_code (By Round) = 2
rounding_code (By RoundTiesEven) = 3
rounding_code ToZero = 4

abbrev pub NamesRounding : ℕ → Type 0
NamesRounding code = (r : WholeRounding) × (code ≡ rounding_code r)

-- the bits of the whole number to which b / 2^f is rounded
abbrev pub rounded_bits : WholeRounding → ℤ → ℕ → ℤ
rounded_bits (By r) b f = whole_bits r b f
rounded_bits ToZero b f = round_to_zero_bits b f

-- the format is valid, and the result is the image in it of those bits
pub record IsRoundedTo (f : FormatParts) (rounding policy : ℕ) (given bits : ℤ) (flag : ℕ) : Type 0 where
  pub format : NamesFormat f
  pub number : ℤ
  pub given_is : AreBitsOf f given number
  pub the_rounding : WholeRounding
  pub rounding_is : rounding ≡ rounding_code the_rounding
  pub the_policy : Policy
  pub policy_is : policy ≡ policy_code the_policy
  pub brought : IsBrought f the_policy (rounded_bits the_rounding number f.frac) bits flag

-- those bits have no image in the format
pub record IsNotRoundedTo (f : FormatParts) (rounding policy : ℕ) (given : ℤ) : Type 0 where
  pub number : ℤ
  pub given_is : AreBitsOf f given number
  pub the_rounding : WholeRounding
  pub rounding_is : rounding ≡ rounding_code the_rounding
  pub the_policy : Policy
  pub policy_is : policy ≡ policy_code the_policy
  pub out : IsNotBrought f the_policy (rounded_bits the_rounding number f.frac)

-- the refusal of a call with these arguments
abbrev pub RoundIsRefused : FormatParts → ℕ → ℕ → ℤ → Refusal → Type 0
RoundIsRefused f rounding policy bits =
    Unless (NamesFormat f) BadFormat
    (Unless (NamesPolicy policy) BadPolicy
    (Unless (AreBits f bits) BadBits
    (Unless (NamesRounding rounding) BadRounding
    (ForKind (λ kind. (kind ≡ Overflow) × IsNotRoundedTo f rounding policy bits)))))
