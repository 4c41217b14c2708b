-- Why bytes are not a numeral.
use Rattle.std.specs.Prelude.{◌≡◌, ℕ, ◌≤◌, ◌==◌, nat_lt, if◌then◌else◌, Bool, true, false, is_some, List, [], length}
use Rattle.std.specs.Prelude.{take, slice_get, Option, Some, None}
use Rattle.std.specs.Char.{digit_value}
use Rattle.fixed_numeral.specs.declared.radix.Radix.{Radix}
use Rattle.fixed_numeral.specs.declared.error.ParseErrorKind.{ParseErrorKind}
use Rattle.fixed_numeral.specs.declared.error.ParseErrorKind.TheVariants.{InvalidDigit, MisplacedSign, TooManyPoints}
use Rattle.fixed_numeral.specs.declared.error.ParseErrorKind.TheVariants.{TooManyExp, ExpInvalidDigit, ExpOverflow}
use Rattle.fixed_numeral.specs.declared.error.ParseErrorKind.TheVariants.{NoDigits, ExpNoDigits}
use Rattle.fixed_numeral.specs.Numeral.{Parts, HasParts, IsBeginning, IsNumeral, is_sign, is_separator, point, mantissa}

-- the first n bytes are the longest prefix of bs that is a beginning, and p are its parts
pub record IsLongestBeginning (r : Radix) (bs : List ℕ) (n : ℕ) (p : Parts) : Type 0 where
  pub within : n ≤ length bs
  pub beginning : HasParts r (take n bs) p
  pub longest : (m : ℕ) → m ≤ length bs → IsBeginning r (take m bs) → m ≤ n

-- the kind of an offending byte before any separator
abbrev pub kind_before_separator : ℕ → ParseErrorKind
kind_before_separator b = if is_sign b then MisplacedSign else (if b == point then TooManyPoints else InvalidDigit)

-- the kind of an offending byte after a separator
abbrev pub kind_after_separator : Radix → ℕ → ParseErrorKind
kind_after_separator r b = if is_sign b then MisplacedSign else
    (if is_separator r b then TooManyExp else (if nat_lt (digit_value b) 10 then ExpOverflow else ExpInvalidDigit))

abbrev pub is_nil : List ℕ → Bool
is_nil [] = true
is_nil _ = false

-- the kind for a longest beginning and the byte after it, if any
abbrev pub kind_of : Radix → Parts → Option ℕ → ParseErrorKind
kind_of r p (Some b) = if is_some p.exponent then kind_after_separator r b else kind_before_separator b
kind_of r p None = if is_nil (mantissa p) then NoDigits else ExpNoDigits

-- bs is not a numeral, and kind says why
pub record HasCause (r : Radix) (bs : List ℕ) (kind : ParseErrorKind) : Type 0 where
  pub none : IsNumeral r bs → ⊥
  pub count : ℕ
  pub parts : Parts
  pub prefix : IsLongestBeginning r bs count parts
  pub is_kind : kind ≡ kind_of r parts (slice_get bs count)
