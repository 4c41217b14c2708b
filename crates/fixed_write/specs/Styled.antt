-- Styled text: what a style shows of the value c / 2^g.
use Rattle.std.specs.Prelude.{◌≡◌, ℕ, zero, suc, ◌+◌, ◌-◌, ◌*◌, ◌/◌, ◌%◌, ◌^◌, ◌<◌, ◌≤◌, Bool, true, false}
use Rattle.std.specs.Prelude.{if◌then◌else◌, List, [], ◌∷◌, ◌++◌, length, replicate, ℤ, pos, negsuc, ◌+ℤ◌, ◌-ℤ◌}
use Rattle.std.specs.Prelude.{unsigned_abs, Option, Some, None, unwrap_or}
use Rattle.std.specs.Fmt.{sign_text_with, signed_decimal}
use Rattle.std.specs.List.{repeat}
use Rattle.std.specs.Char.{encode_utf8}
use Rattle.std.specs.Int.{is_negative}
use Rattle.fixed_bits.specs.Nearest.{IsNearest}
use Rattle.fixed_write.specs.declared.style.Notation.{Notation}
use Rattle.fixed_write.specs.declared.style.Notation.TheVariants.{Dec, LowerExp, UpperExp, Bin, Oct, LowerHex, UpperHex}
use Rattle.fixed_write.specs.declared.style.Align.{Align}
use Rattle.fixed_write.specs.declared.style.Align.TheVariants.{Left, Center, Right}
use Rattle.fixed_write.specs.declared.style.Style.{Style}
use Rattle.fixed_write.specs.Shortest.{IsShortest}
use Rattle.fixed_write.specs.Texts.{point, zero_digit, point_text, whole_digits}
use Rattle.fixed_write.specs.Places.{IsExact}

-- ---- notations
-- the style of a notation without options
abbrev pub plain_style : Notation → Style
plain_style n = record {
  notation = n;
  precision = None;
  width = 0;
  fill = 32;
  align = Right;
  plus = false;
  prefix = false;
  zero_pad = false;
}

abbrev pub base_of : Notation → ℕ
base_of Bin = 2
base_of Oct = 8
base_of LowerHex = 16
base_of UpperHex = 16
base_of Dec = 10
base_of LowerExp = 10
base_of UpperExp = 10

abbrev pub is_upper : Notation → Bool
is_upper UpperHex = true
is_upper _ = false

abbrev pub prefix_of : Notation → List ℕ
prefix_of Bin = 48 ∷ 98 ∷ []
prefix_of Oct = 48 ∷ 111 ∷ []
prefix_of LowerHex = 48 ∷ 120 ∷ []
prefix_of UpperHex = 48 ∷ 120 ∷ []
prefix_of _ = []

-- ---- digits
-- n / base^k is the number shown: with a precision, the nearest number to that many places, ties to even; without one,
-- the shortest decimal, or in another base the exact value in the fewest places
abbrev pub IsShown : Notation → Option ℕ → ℕ → ℕ → ℕ → ℕ → Type 0
IsShown notation (Some p) c g n k = (k ≡ p) × IsNearest (c * base_of notation ^ p) (2 ^ g) n
IsShown Bin None c g n k = IsExact 2 c g k n
IsShown Oct None c g n k = IsExact 8 c g k n
IsShown LowerHex None c g n k = IsExact 16 c g k n
IsShown UpperHex None c g n k = IsExact 16 c g k n
IsShown _ None c g n k = IsShortest c g n k

-- body is the number shown, with a point
pub record IsPointBody (notation : Notation) (precision : Option ℕ) (c g : ℕ) (body : List ℕ) : Type 0 where
  pub number : ℕ
  pub places : ℕ
  pub shown : IsShown notation precision c g number places
  pub body_is : body ≡ point_text (base_of notation) (is_upper notation) places number

-- ---- digits with an exponent
-- ten to the e, as a fraction
abbrev pub ten_up : ℤ → ℕ
ten_up (pos e) = 10 ^ e
ten_up (negsuc e) = 1

abbrev pub ten_down : ℤ → ℕ
ten_down (pos e) = 1
ten_down (negsuc e) = 10 ^ suc e

-- 10^e ≤ c / 2^g < 10^(e + 1)
pub record IsDecade (c g : ℕ) (e : ℤ) : Type 0 where
  pub low : ten_up e * 2 ^ g ≤ c * ten_down e
  pub high : c * ten_down e < 10 * ten_up e * 2 ^ g

-- a digit, then a point and the other digits, if any
abbrev pub pointed : List ℕ → List ℕ
pointed [] = []
pointed (d ∷ []) = d ∷ []
pointed (d ∷ ds) = d ∷ point ∷ ds

abbrev pub mark_of : Notation → ℕ
mark_of UpperExp = 69
mark_of _ = 101

abbrev pub exponent_text : Notation → ℤ → List ℕ
exponent_text notation e = mark_of notation ∷ signed_decimal e

-- m are the figures of the shortest decimal, without trailing zeros, and e is the exponent of the first
pub record IsShortFigures (c g m : ℕ) (e : ℤ) : Type 0 where
  pub number : ℕ
  pub places : ℕ
  pub zeros : ℕ
  pub shortest : IsShortest c g number places
  pub figures : number ≡ m * 10 ^ zeros
  pub last : m % 10 ≡ 0 → ⊥
  pub exponent : e ≡ pos (length (whole_digits 10 false number)) -ℤ pos (places + 1)

-- m are the figures rounded to p places after the first, and e is its exponent
pub record IsRoundedFigures (p c g m : ℕ) (e : ℤ) : Type 0 where
  pub decade : ℤ
  pub is_decade : IsDecade c g decade
  pub number : ℕ
  pub near : IsNearest (c * 10 ^ p * ten_down decade) (ten_up decade * 2 ^ g) number
  pub kept : (number ≡ 10 ^ suc p → ⊥) → (m ≡ number) × (e ≡ decade)
  pub carried : number ≡ 10 ^ suc p → (m ≡ 10 ^ p) × (e ≡ decade +ℤ pos 1)

abbrev pub IsFigures : Option ℕ → ℕ → ℕ → ℕ → ℤ → Type 0
IsFigures None c g m e = IsShortFigures c g m e
IsFigures (Some p) c g m e = IsRoundedFigures p c g m e

pub record HasFigures (notation : Notation) (precision : Option ℕ) (c g : ℕ) (body : List ℕ) : Type 0 where
  pub figures : ℕ
  pub exponent : ℤ
  pub are_figures : IsFigures precision c g figures exponent
  pub body_is : body ≡ pointed (whole_digits 10 false figures) ++ exponent_text notation exponent

-- body is the number with an exponent; zero has the exponent 0
abbrev pub IsExponentBody : Notation → Option ℕ → ℕ → ℕ → List ℕ → Type 0
IsExponentBody notation precision zero g body = body ≡ pointed (replicate (suc (unwrap_or precision 0)) zero_digit)
    ++ exponent_text notation (pos 0)
IsExponentBody notation precision (suc c) g body = HasFigures notation precision (suc c) g body

abbrev pub IsBody : Notation → Option ℕ → ℕ → ℕ → List ℕ → Type 0
IsBody LowerExp precision c g body = IsExponentBody LowerExp precision c g body
IsBody UpperExp precision c g body = IsExponentBody UpperExp precision c g body
IsBody notation precision c g body = IsPointBody notation precision c g body

-- ---- sign, prefix and padding
abbrev pub shown_prefix : Style → List ℕ
shown_prefix s = if s.prefix then prefix_of s.notation else []

-- the text before the body
abbrev pub sign_and_prefix : Style → Bool → List ℕ
sign_and_prefix s negative = sign_text_with s.plus negative ++ shown_prefix s

-- the number of fills before the text
abbrev pub fills_before : Align → ℕ → ℕ
fills_before Left p = 0
fills_before Center p = p / 2
fills_before Right p = p

abbrev pub fills : Style → ℕ → List ℕ
fills s n = repeat n (encode_utf8 s.fill)

abbrev pub padding : Style → List ℕ → List ℕ → ℕ
padding s prefix body = s.width - (length prefix + length body)

-- the body padded up to the width
unfoldable pub padded_text : Style → List ℕ → List ℕ → List ℕ
padded_text s prefix body = if s.zero_pad then prefix ++ replicate (padding s prefix body) zero_digit ++ body
    else fills s (fills_before s.align (padding s prefix body)) ++ (prefix ++ body)
    ++ fills s (padding s prefix body - fills_before s.align (padding s prefix body))

-- text shows c / 2^g in the style
pub record IsStyledText (style : Style) (c : ℤ) (g : ℕ) (text : List ℕ) : Type 0 where
  pub body : List ℕ
  pub is_body : IsBody style.notation style.precision (unsigned_abs c) g body
  pub text_is : text ≡ padded_text style (sign_and_prefix style (is_negative c)) body
