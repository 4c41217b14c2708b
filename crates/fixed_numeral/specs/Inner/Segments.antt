-- Segments of a text, for the functions that read numbers straight from its bytes.
use Rattle.std.specs.Prelude.{◌≡◌, ℕ, ◌+◌, ◌-◌, ◌^◌, ◌<◌, ◌≤◌, Bool, IsTrue, List, ◌++◌, length, drop, get_or, Option}
use Rattle.std.specs.Prelude.{IfSome, option_to_list, ℤ}
use Rattle.std.specs.Char.{digit_value}
use Rattle.std.specs.Int.{bit_at}
use Rattle.std.specs.Str.Parse.{AllDigits, digits_value}
use Rattle.fixed_numeral.specs.declared.radix.Radix.{Radix}
use Rattle.fixed_numeral.specs.Numeral.{Parts, Exponent, base, IsExponentOf, HasNumeral, is_sign, is_minus}
use Rattle.fixed_numeral.specs.Numeral.{fraction_text, exponent_text, fractional_digits}
use Rattle.fixed_numeral.specs.PartNumbers.{exponent_value, is_power_of_two, IsShortNumeral}

-- the bytes from index `from` up to `to` are an optional sign
pub record IsSignAt (bs : List ℕ) (from to : ℕ) (negative : Bool) : Type 0 where
  pub sign : Option ℕ
  pub text : drop from bs ≡ option_to_list sign ++ drop to bs
  pub within : to ≤ length bs
  pub is_sign : IfSome sign (λ b. IsTrue (is_sign b))
  pub is_negative : negative ≡ is_minus sign

-- the bytes from index `from` up to `to` are digits that spell this number
pub record IsDigitRun (b : ℕ) (bs : List ℕ) (from to number : ℕ) : Type 0 where
  pub digits : List ℕ
  pub text : drop from bs ≡ digits ++ drop to bs
  pub count : from + length digits ≡ to
  pub within : to ≤ length bs
  pub are_digits : AllDigits b digits
  pub spelled : number ≡ digits_value b digits

-- the bytes from index `from` up to `to` are the digits of a mantissa and its point
pub record IsMantissaAt (b : ℕ) (bs : List ℕ) (from to whole_number fraction_number places : ℕ) : Type 0 where
  pub whole : List ℕ
  pub fraction : Option (List ℕ)
  pub text : drop from bs ≡ whole ++ (fraction_text fraction ++ drop to bs)
  pub within : to ≤ length bs
  pub whole_digits : AllDigits b whole
  pub fraction_digits : IfSome fraction (AllDigits b)
  pub whole_spelled : whole_number ≡ digits_value b whole
  pub fraction_spelled : fraction_number ≡ digits_value b (fractional_digits fraction)
  pub places_are : places ≡ length (fractional_digits fraction)
  pub some : 0 < length (whole ++ fractional_digits fraction)

-- the bytes from index `from` on are an exponent or nothing
pub record IsExponentAt (r : Radix) (bs : List ℕ) (from : ℕ) (number : ℤ) (by_two : Bool) : Type 0 where
  pub exponent : Option Exponent
  pub text : drop from bs ≡ exponent_text exponent
  pub is_exponent : IfSome exponent (IsExponentOf r)
  pub some : IfSome exponent (λ e. 0 < length e.digits)
  pub is_number : number ≡ exponent_value exponent
  pub is_by_two : by_two ≡ is_power_of_two r exponent

-- bs is a numeral, and these are the numbers of its parts
pub record IsShortAt (r : Radix) (bs : List ℕ) (negative : Bool) (whole fraction places : ℕ) (exponent : ℤ)
    (scales_by_two : Bool) : Type 0 where
  pub parts : Parts
  pub numeral : HasNumeral r bs parts
  pub numbers : IsShortNumeral r parts negative whole fraction places exponent scales_by_two
  pub below : fraction < base r ^ places
  pub whole_fits : whole < base r ^ 16
  pub few : places ≤ 27

-- each of the last 16 bytes is a digit if its bit of `marks` is not set; the first has the lowest bit
pub record HasMarks (b : ℕ) (bs : List ℕ) (marks : ℕ) : Type 0 where
  pub digit : (k : ℕ) → k < 16 → bit_at marks k ≡ 0 → digit_value (get_or bs (length bs - 16 + k) 0) < b
