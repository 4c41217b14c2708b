-- Whole numbers as std writes them.
use Rattle.std.proofs.Common.{◌≡◌, ℕ, zero, suc, ◌+◌, ◌^◌, ◌<◌, ◌≤◌, Bool, true, false, List, [], ◌∷◌, ◌++◌, map, length, ℤ, pos, negsuc, unsigned_abs, refl, sym, ap, ◌∙◌, arith, length-append, append_assoc}
use Rattle.std.specs.Fmt.{digit_glyph, digits, decimal, signed_decimal, sign_text}
use Rattle.std.specs.Int.{is_negative}
use Rattle.std.specs.Int.Digits.{digits_of, AllBelowBase}
use Rattle.std.specs.Str.{IsAscii}
use Rattle.std.proofs.lemmas.Int.Digits.{all_below_base_digits_of}
use Rattle.std.proofs.lemmas.Fmt.{decimal-digits_of}
use Rattle.std.proofs.lemmas.Str.{IsAscii-append}
use Rattle.fixed_bits.specs.Numbers.{with_sign}
use Rattle.fixed_bits.proofs.Public.{not_negative}
use Rattle.fixed_write.specs.Texts.{whole_digits}
use Rattle.fixed_write.proofs.DigitLemmas.{whole_digits_short, whole_digits_some}
use Rattle.fixed_write.proofs.AsciiLemmas.{whole_digits_ascii, sign_ascii}

glyph_is : (d : ℕ) → d < 10 → 48 + d ≡ digit_glyph false d
glyph_is d l = grind arith

glyphs_are : (ds : List ℕ) → AllBelowBase 10 ds → map (λ d. 48 + d) ds ≡ map (digit_glyph false) ds
glyphs_are [] h = refl
glyphs_are (d ∷ ds) h = cons_are (48 + d) (digit_glyph false d) (map (λ x. 48 + x) ds) (map (digit_glyph false) ds) (glyph_is d h.0) (glyphs_are ds h.1)
  where
    cons_are : (a b : ℕ) (xs ys : List ℕ) → a ≡ b → xs ≡ ys → a ∷ xs ≡ b ∷ ys
    cons_are a b xs ys e f = rw (e, f) refl

decimal_zero : decimal 0 ≡ whole_digits 10 false 0
unfolding digits whole_digits
decimal_zero = refl

pub decimal_is : (n : ℕ) → n < 2 ^ 64 → decimal n ≡ whole_digits 10 false n
decimal_is zero l = decimal_zero
decimal_is (suc n) l =
    decimal-digits_of (suc n) (omega arith) l ∙ (glyphs_are (digits_of 10 (suc n)) (all_below_base_digits_of 10 (suc n) (omega arith)) ∙ sym (whole_digits_some 10 false (suc n) (omega arith)))

-- the magnitude of a number with a sign and a magnitude
pub signed_abs : (negative : Bool) (m : ℕ) → unsigned_abs (with_sign negative m) ≡ m
signed_abs true zero = refl
signed_abs true (suc m) = refl
signed_abs false m = refl

pub signed_decimal_is : (v : ℤ) → unsigned_abs v < 2 ^ 64 → signed_decimal v ≡ sign_text (is_negative v) ++ whole_digits 10 false (unsigned_abs v)
signed_decimal_is (pos zero) l = decimal_is zero l
signed_decimal_is (pos (suc n)) l = decimal_is (suc n) l ∙ rw (not_negative (suc n)) refl
signed_decimal_is (negsuc n) l = ap (λ (t : List ℕ). 45 ∷ t) (decimal_is (suc n) l)

pub word_digits : (n : ℕ) → n < 2 ^ 64 → length (whole_digits 10 false n) ≤ 20
word_digits n l = whole_digits_short 10 false 20 n (omega arith) (omega arith) (omega arith)

pub sign_length : (negative : Bool) → length (sign_text negative) ≤ 1
sign_length true = omega arith
sign_length false = omega arith

pub signed_decimal_short : (v : ℤ) → unsigned_abs v < 2 ^ 64 → length (signed_decimal v) ≤ 21
signed_decimal_short v l =
    omega (arith, ap length (signed_decimal_is v l) ∙ length-append (sign_text (is_negative v)) (whole_digits 10 false (unsigned_abs v)), sign_length (is_negative v), word_digits (unsigned_abs v) l)

pub signed_decimal_ascii : (v : ℤ) → unsigned_abs v < 2 ^ 64 → IsAscii (signed_decimal v)
signed_decimal_ascii v l = rw (signed_decimal_is v l) (IsAscii-append (sign_text (is_negative v)) (whole_digits 10 false (unsigned_abs v)) (sign_ascii (is_negative v)) (whole_digits_ascii 10 false (unsigned_abs v) (omega arith) (omega arith)))

-- a number pushed in two parts
pub integer_of_parts : (v : ℤ) (m : ℕ) (old mid new : List ℕ) → m < 2 ^ 64 → m ≡ unsigned_abs v → mid ≡ old ++ sign_text (is_negative v) → new ≡ mid ++ whole_digits 10 false m → new ≡ old ++ signed_decimal v
integer_of_parts v m old mid new l e f h =
    let small : unsigned_abs v < 2 ^ 64 = rw e at l in
    h ∙ rw (f, e, signed_decimal_is v small) (append_assoc old (sign_text (is_negative v)) (whole_digits 10 false (unsigned_abs v)))
