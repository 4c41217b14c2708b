-- Numerals that are known when a call is written: a caller of a strict reading call cites these lemmas in its `using`.
-- Such a numeral has an optional sign, digits, and optionally a point and digits, but no exponent.
use Rattle.std.proofs.Common.{◌≡◌, ℕ, ◌+◌, ◌*◌, ◌/◌, ◌%◌, ◌^◌, ◌<◌, ◌==◌, ◌&&◌, ◌++◌, Bool, true, false, IsTrue, List, [], ◌∷◌, length, ℤ, arith, refl, sym, ap, ◌∙◌, mod-lt, div-add-mod'}
use Rattle.std.specs.Prelude.{if◌then◌else◌, nat_lt, Option, Some, None, IfSome, option_to_list}
use Rattle.std.specs.Char.{digit_value}
use Rattle.std.specs.Str.Parse.{AllDigits}
use Rattle.std.proofs.lemmas.Bool.Decides.{nat_tests}
use Rattle.std.proofs.lemmas.List.{append-nil}
use Rattle.fixed_bits.specs.Ranges.{IsInRange}
use Rattle.fixed_bits.specs.Nearest.{IsNearest}
use Rattle.fixed_bits.proofs.Public.{nearest_by_rest, nearest_by_rest_up}
use Rattle.fixed_bits.specs.declared.mode.ReadMode.TheVariants.{NearestEven}
use Rattle.fixed_numeral.specs.Numeral.{Parts, HasNumeral, base, point, is_sign, signed, fraction_text, text_of, fractional_digits, mantissa}
use Rattle.fixed_numeral.specs.Value.{magnitude}
use Rattle.fixed_numeral.proofs.Public.{magnitude_pos}
use Rattle.fixed_numeral.specs.declared.radix.Radix.{Radix}
use Rattle.fixed_read.specs.Reading.{IsReadNumber, IsReadInRange}

-- ---- the parts of a text
abbrev pub sign_of : List ℕ → Option ℕ
sign_of [] = None
sign_of (b ∷ bs) = if is_sign b then Some b else None

abbrev pub after_sign : List ℕ → List ℕ
after_sign [] = []
after_sign (b ∷ bs) = if is_sign b then bs else b ∷ bs

abbrev pub whole_of : List ℕ → List ℕ
whole_of [] = []
whole_of (b ∷ bs) = if b == point then [] else b ∷ whole_of bs

abbrev pub fraction_of : List ℕ → Option (List ℕ)
fraction_of [] = None
fraction_of (b ∷ bs) = if b == point then Some bs else fraction_of bs

abbrev pub parts_of : List ℕ → Parts
parts_of bs = record { sign = sign_of bs; whole = whole_of (after_sign bs); fraction = fraction_of (after_sign bs); exponent = None }

-- ---- tests that compute
abbrev pub are_digits : ℕ → List ℕ → Bool
are_digits radix [] = true
are_digits radix (c ∷ cs) = nat_lt (digit_value c) radix && are_digits radix cs

abbrev pub is_plain_numeral : Radix → List ℕ → Bool
is_plain_numeral r bs = are_digits (base r) (whole_of (after_sign bs)) && (are_digits (base r) (fractional_digits (fraction_of (after_sign bs))) && nat_lt 0 (length (mantissa (parts_of bs))))

-- the nearest whole number to num / den, ties to even
abbrev pub nearest_of : ℕ → ℕ → ℕ
nearest_of num den = if nat_lt den (2 * (num % den)) then num / den + 1 else (if (2 * (num % den) == den) && (num / den % 2 == 1) then num / den + 1 else num / den)

-- the number that a plain numeral reads as at fraction length f
abbrev pub number_of : Radix → List ℕ → ℕ → ℤ
number_of r bs f = signed (sign_of bs) (nearest_of ((magnitude r (parts_of bs)).num * 2 ^ f) (magnitude r (parts_of bs)).den)

-- ---- the parts are those of the text
split_by : (t : Bool) (b : ℕ) (bs : List ℕ) → (b == point) ≡ t → bs ≡ whole_of bs ++ fraction_text (fraction_of bs) → b ∷ bs ≡ (if t then [] else b ∷ whole_of bs) ++ fraction_text (if t then Some bs else fraction_of bs)
split_by true b bs e h = let same : b ≡ point = grind (arith, nat_tests, e) in ap (λ x. x ∷ bs) same
split_by false b bs e h = ap (λ xs. b ∷ xs) h

split_is : (bs : List ℕ) → bs ≡ whole_of bs ++ fraction_text (fraction_of bs)
split_is [] = refl
split_is (b ∷ bs) = split_by (b == point) b bs refl (split_is bs)

signed_by : (t : Bool) (b : ℕ) (bs : List ℕ) → b ∷ bs ≡ option_to_list (if t then Some b else None) ++ (if t then bs else b ∷ bs)
signed_by true b bs = refl
signed_by false b bs = refl

sign_split : (bs : List ℕ) → bs ≡ option_to_list (sign_of bs) ++ after_sign bs
sign_split [] = refl
sign_split (b ∷ bs) = signed_by (is_sign b) b bs

text_is : (bs : List ℕ) → bs ≡ text_of (parts_of bs)
text_is bs =
    let e : (fraction_text (fraction_of (after_sign bs)) ++ []) ≡ fraction_text (fraction_of (after_sign bs)) = append-nil _ in
    sign_split bs ∙ ap (λ xs. option_to_list (sign_of bs) ++ xs) (split_is (after_sign bs) ∙ ap (λ xs. whole_of (after_sign bs) ++ xs) (sym e))

-- ---- the tests mean what their names say
sign_by : (t : Bool) (b : ℕ) → is_sign b ≡ t → IfSome (if t then Some b else None) (λ c. IsTrue (is_sign c))
sign_by true b e = e
sign_by false b e = tt

sign_holds : (bs : List ℕ) → IfSome (sign_of bs) (λ c. IsTrue (is_sign c))
sign_holds [] = tt
sign_holds (b ∷ bs) = sign_by (is_sign b) b refl

both : (a b : Bool) → IsTrue (a && b) → IsTrue a × IsTrue b
both true true e = (refl, refl)
both true false e = absurd cc
both false b e = absurd cc

digits_hold : (radix : ℕ) (cs : List ℕ) → IsTrue (are_digits radix cs) → AllDigits radix cs
digits_hold radix [] e = tt
digits_hold radix (c ∷ cs) e =
    let h = both (nat_lt (digit_value c) radix) (are_digits radix cs) e in
    (grind (arith, nat_tests, h.0), digits_hold radix cs h.1)

fraction_holds : (radix : ℕ) (f : Option (List ℕ)) → IsTrue (are_digits radix (fractional_digits f)) → IfSome f (AllDigits radix)
fraction_holds radix None e = tt
fraction_holds radix (Some cs) e = digits_hold radix cs e

pub has_numeral : (r : Radix) (bs : List ℕ) → IsTrue (is_plain_numeral r bs) → HasNumeral r bs (parts_of bs)
has_numeral r bs e =
    let whole = whole_of (after_sign bs) in
    let fraction = fraction_of (after_sign bs) in
    let h = both (are_digits (base r) whole) (are_digits (base r) (fractional_digits fraction) && nat_lt 0 (length (mantissa (parts_of bs)))) e in
    let k = both (are_digits (base r) (fractional_digits fraction)) (nat_lt 0 (length (mantissa (parts_of bs)))) h.1 in
    record {
      beginning = record {
        parts = record { sign = sign_holds bs; whole = digits_hold (base r) whole h.0; fraction = fraction_holds (base r) fraction k.0; exponent = tt };
        text = text_is bs;
      };
      mantissa = grind (arith, nat_tests, k.1);
      exponent = tt;
    }

-- ---- the number
nearest_by : (num den : ℕ) (above tie odd : Bool) → 0 < den → nat_lt den (2 * (num % den)) ≡ above → (2 * (num % den) == den) ≡ tie → (num / den % 2 == 1) ≡ odd → IsNearest num den (if above then num / den + 1 else (if tie && odd then num / den + 1 else num / den))
nearest_by num den true tie odd pos a t o = nearest_by_rest_up num den (num / den) (num % den) (sym (div-add-mod' num den)) (mod-lt num pos) (let l : den < 2 * (num % den) = grind (arith, nat_tests, a) in omega arith) (λ e. absurd (let l : den < 2 * (num % den) = grind (arith, nat_tests, a) in omega arith))
nearest_by num den false true true pos a t o = nearest_by_rest_up num den (num / den) (num % den) (sym (div-add-mod' num den)) (mod-lt num pos) (let l : 2 * (num % den) ≡ den = grind (arith, nat_tests, t) in omega arith) (λ e. let l : num / den % 2 ≡ 1 = grind (arith, nat_tests, o) in omega arith)
nearest_by num den false true false pos a t o = nearest_by_rest num den (num / den) (num % den) (sym (div-add-mod' num den)) (let l : 2 * (num % den) ≡ den = grind (arith, nat_tests, t) in omega arith) (λ e. let l : num / den % 2 ≡ 1 → ⊥ = grind (arith, nat_tests, o) in omega arith)
nearest_by num den false false odd pos a t o = nearest_by_rest num den (num / den) (num % den) (sym (div-add-mod' num den)) (let l : den < 2 * (num % den) → ⊥ = grind (arith, nat_tests, a) in omega arith) (λ e. absurd (let l : 2 * (num % den) ≡ den → ⊥ = grind (arith, nat_tests, t) in l e))

nearest_is : (num den : ℕ) → 0 < den → IsNearest num den (nearest_of num den)
nearest_is num den pos = nearest_by num den (nat_lt den (2 * (num % den))) (2 * (num % den) == den) (num / den % 2 == 1) pos refl refl refl

number_is : (r : Radix) (bs : List ℕ) (f : ℕ) → IsReadNumber NearestEven r (parts_of bs) f (number_of r bs f)
number_is r bs f = record {
  ulps = nearest_of ((magnitude r (parts_of bs)).num * 2 ^ f) (magnitude r (parts_of bs)).den;
  rounded = nearest_is ((magnitude r (parts_of bs)).num * 2 ^ f) (magnitude r (parts_of bs)).den (magnitude_pos r (parts_of bs));
  value = refl;
}

-- a plain numeral reads in range, as a strict reading call requires, if its number is in range
pub reads_in_range : (r : Radix) (bs : List ℕ) (f : ℕ) (s : Bool) (n : ℕ) → IsTrue (is_plain_numeral r bs) → IsInRange s n (number_of r bs f) → IsReadInRange NearestEven r (HasNumeral r bs) f s n
reads_in_range r bs f s n e h = record {
  parts = parts_of bs;
  has = has_numeral r bs e;
  number = number_of r bs f;
  read = number_is r bs f;
  in_range = h;
}
