-- Beginnings and numerals.
use Rattle.std.specs.Prelude.{◌≡◌, ℕ, ◌<◌, Bool, false, ◌||◌, ◌==◌, if◌then◌else◌, IsTrue, List, [], ◌∷◌, ◌++◌, length}
use Rattle.std.specs.Prelude.{Option, Some, None, IfSome, option_to_list, ℤ, pos, neg_ℤ, FitsSigned}
use Rattle.std.specs.Int.{w32}
use Rattle.std.specs.Str.Parse.{AllDigits, digits_value}
use Rattle.fixed_numeral.specs.declared.radix.Radix.{Radix}
use Rattle.fixed_numeral.specs.declared.radix.Radix.TheVariants.{Bin, Oct, Dec, Hex}

abbrev pub base : Radix → ℕ
base Bin = 2
base Oct = 8
base Dec = 10
base Hex = 16

-- '.'
abbrev pub point : ℕ
point = 46

-- '-'
abbrev pub minus : ℕ
minus = 45

-- '+' or '-'
abbrev pub is_sign : ℕ → Bool
is_sign b = (b == 43) || (b == 45)

-- 'e', 'E' and '@' scale by the radix; in radix 16 'e' is a digit
abbrev pub is_radix_separator : Radix → ℕ → Bool
is_radix_separator Bin b = (b == 101) || (b == 69) || (b == 64)
is_radix_separator Oct b = (b == 101) || (b == 69) || (b == 64)
is_radix_separator Dec b = (b == 101) || (b == 69) || (b == 64)
is_radix_separator Hex b = b == 64

-- 'p' and 'P' scale by two; radix 10 has none
abbrev pub is_two_separator : Radix → ℕ → Bool
is_two_separator Bin b = (b == 112) || (b == 80)
is_two_separator Oct b = (b == 112) || (b == 80)
is_two_separator Dec b = false
is_two_separator Hex b = (b == 112) || (b == 80)

abbrev pub is_separator : Radix → ℕ → Bool
is_separator r b = is_radix_separator r b || is_two_separator r b

pub record Exponent : Type 0 where
  pub separator : ℕ
  pub sign : Option ℕ
  pub digits : List ℕ

-- the parts of a beginning
pub record Parts : Type 0 where
  pub sign : Option ℕ
  pub whole : List ℕ
  pub fraction : Option (List ℕ)
  pub exponent : Option Exponent

abbrev pub fraction_text : Option (List ℕ) → List ℕ
fraction_text None = []
fraction_text (Some ds) = point ∷ ds

abbrev pub exponent_text : Option Exponent → List ℕ
exponent_text None = []
exponent_text (Some e) = e.separator ∷ (option_to_list e.sign ++ e.digits)

-- the text that the parts write
abbrev pub text_of : Parts → List ℕ
text_of p = option_to_list p.sign ++ (p.whole ++ (fraction_text p.fraction ++ exponent_text p.exponent))

abbrev pub is_minus : Option ℕ → Bool
is_minus None = false
is_minus (Some b) = b == minus

-- the number with its sign
abbrev pub signed : Option ℕ → ℕ → ℤ
signed sign n = if is_minus sign then neg_ℤ (pos n) else pos n

abbrev pub exponent_number : Exponent → ℤ
exponent_number e = signed e.sign (digits_value 10 e.digits)

pub record IsExponentOf (r : Radix) (e : Exponent) : Type 0 where
  pub separator : IsTrue (is_separator r e.separator)
  pub sign : IfSome e.sign (λ b. IsTrue (is_sign b))
  pub digits : AllDigits 10 e.digits
  pub in_range : FitsSigned w32 (exponent_number e)

pub record IsPartsOf (r : Radix) (p : Parts) : Type 0 where
  pub sign : IfSome p.sign (λ b. IsTrue (is_sign b))
  pub whole : AllDigits (base r) p.whole
  pub fraction : IfSome p.fraction (AllDigits (base r))
  pub exponent : IfSome p.exponent (IsExponentOf r)

-- bs is a beginning, with these parts
pub record HasParts (r : Radix) (bs : List ℕ) (p : Parts) : Type 0 where
  pub parts : IsPartsOf r p
  pub text : bs ≡ text_of p

abbrev pub IsBeginning : Radix → List ℕ → Type 0
IsBeginning r bs = (p : Parts) × HasParts r bs p

abbrev pub fractional_digits : Option (List ℕ) → List ℕ
fractional_digits None = []
fractional_digits (Some ds) = ds

-- all mantissa digits
abbrev pub mantissa : Parts → List ℕ
mantissa p = p.whole ++ fractional_digits p.fraction

-- bs is a numeral, with these parts
pub record HasNumeral (r : Radix) (bs : List ℕ) (p : Parts) : Type 0 where
  pub beginning : HasParts r bs p
  pub mantissa : 0 < length (mantissa p)
  pub exponent : IfSome p.exponent (λ e. 0 < length e.digits)

abbrev pub IsNumeral : Radix → List ℕ → Type 0
IsNumeral r bs = (p : Parts) × HasNumeral r bs p
