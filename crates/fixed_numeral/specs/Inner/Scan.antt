-- What the scanner's state says of the bytes read so far.
use Rattle.std.specs.Prelude.{ℕ, ◌+◌, ◌^◌, ◌-◌, ◌<◌, ◌≤◌, ◌⊎◌, true, false, if◌then◌else◌, List, [], ◌∷◌, ◌++◌, ◌≡◌}
use Rattle.std.specs.Prelude.{◌&&◌, not, Bool, is_some, is_none, Option, Some, None, IfSome, option_to_list, length}
use Rattle.fixed_numeral.specs.declared.scanner.State.{State}
use Rattle.fixed_numeral.specs.Numeral.{Parts, Exponent, HasParts, IsBeginning, is_minus, fractional_digits}
use Rattle.fixed_numeral.specs.Cause.{is_nil, kind_of}
use Rattle.fixed_numeral.specs.declared.radix.Radix.{Radix}
use Rattle.fixed_numeral.specs.Inner.Shift.{AgreesWithExponent}
use Rattle.fixed_numeral.specs.declared.error.ParseErrorKind.{ParseErrorKind}
use Rattle.fixed_numeral.specs.declared.error.ParseErrorKind.TheVariants.{NoDigits, ExpNoDigits}

-- the greatest magnitude of an exponent, by its sign
abbrev pub max_magnitude : Bool → ℕ
max_magnitude negative = if negative then 2 ^ 31 else 2 ^ 31 - 1

-- a sign may come next
abbrev pub is_fresh : Parts → Option Exponent → Bool
is_fresh p None = is_none p.sign && (is_nil p.whole && is_none p.fraction)
is_fresh p (Some e) = is_none e.sign && is_nil e.digits

pub record Agrees (r : Radix) (s : State) (p : Parts) : Type 0 where
  pub neg : s.negative ≡ is_minus p.sign
  pub start : s.sign_len ≡ length (option_to_list p.sign)
  pub whole : s.whole_len ≡ length p.whole
  pub point : s.has_point ≡ is_some p.fraction
  pub fraction : s.fraction_len ≡ length (fractional_digits p.fraction)
  pub separator : s.has_separator ≡ is_some p.exponent
  pub fresh : s.sign_allowed ≡ is_fresh p p.exponent
  pub exponent : AgreesWithExponent r s.scales_by_two s.exponent_negative s.magnitude p.exponent
  pub counted : IfSome p.exponent (λ e. s.has_exponent_digit ≡ not (is_nil e.digits))

-- bs cannot go on with the byte b, and kind says why
pub record CannotExtend (r : Radix) (bs : List ℕ) (p : Parts) (b : ℕ) (kind : ParseErrorKind) : Type 0 where
  pub none : IsBeginning r (bs ++ b ∷ []) → ⊥
  pub is_kind : kind ≡ kind_of r p (Some b)

-- s is the state after the bytes bs
pub record IsAfter (r : Radix) (bs : List ℕ) (s : State) : Type 0 where
  pub parts : Parts
  pub beginning : HasParts r bs parts
  pub agrees : Agrees r s parts
  pub room : s.magnitude ≤ max_magnitude true

-- bs can go on with the byte b, and next is the state after it
abbrev pub Extends : Radix → List ℕ → ℕ → State → Type 0
Extends r bs b next = IsAfter r (bs ++ b ∷ []) next

-- nothing is missing if the text ends here
pub record IsComplete (s : State) : Type 0 where
  pub digits : 0 < s.whole_len + s.fraction_len
  pub exponent : (s.has_separator ≡ false) ⊎ (s.has_exponent_digit ≡ true)

-- a mantissa digit or else an exponent digit is missing if the text ends here, and kind says which
abbrev pub IsIncomplete : State → ParseErrorKind → Type 0
IsIncomplete s kind = ((s.whole_len + s.fraction_len ≡ 0) × (kind ≡ NoDigits))
    ⊎ ((0 < s.whole_len + s.fraction_len) × (s.has_separator ≡ true) × (s.has_exponent_digit ≡ false)
    × (kind ≡ ExpNoDigits))
