-- The text of a number is a numeral that reads as the number.
use Rattle.std.proofs.Common.{◌≡◌, ℕ, zero, suc, ◌+◌, ◌*◌, ◌/◌, ◌%◌, ◌^◌, ◌<◌, ◌≤◌, Bool, true, false, Option, Some, None, List, [], ◌∷◌, ◌++◌, length, ℤ, pos, negsuc, ◌-ℤ◌, IfSome, IsTrue, unsigned_abs, refl, sym, ap, ◌∙◌, arith, pow-suc, append-nil, append_assoc, length-append, div-add-mod', mul-le-mul_left, ⊎_elim}
use Rattle.std.specs.Char.{digit_value}
use Rattle.std.specs.Fmt.{digit_glyph, signed_decimal, sign_text}
use Rattle.std.specs.Int.{is_negative}
use Rattle.std.specs.Str.Parse.{digits_value, digits_value_after, AllDigits}
use Rattle.std.proofs.Math.Arith.{mod-mul}
use Rattle.std.proofs.Math.Nat.{one-le-pow, mod-one, div-one, pow-zero}
use Rattle.std.proofs.lemmas.Bool.{cases_lt}
use Rattle.std.proofs.lemmas.Int.{ints}
use Rattle.std.proofs.lemmas.Int.Digits.{digits_push, digits_value_push}
use Rattle.fixed_bits.proofs.Public.{rounded_exact, not_negative}
use Rattle.fixed_bits.specs.Rounded.{IsRounded}
use Rattle.fixed_bits.specs.declared.mode.ReadMode.{ReadMode}
use Rattle.fixed_bits.specs.declared.mode.ReadMode.TheVariants.{NearestEven}
use Rattle.fixed_decimal.proofs.LawLemmas.{read_decimal_unique}
use Rattle.fixed_decimal.specs.Laws.{DecimalTextIsTheOne, DecimalTextReadsBack}
use Rattle.fixed_decimal.specs.Texts.{decimal_format_text}
use Rattle.fixed_numeral.proofs.Public.{parts_unique}
use Rattle.fixed_numeral.specs.Numeral.{Parts, HasNumeral, minus, text_of, fractional_digits, signed, is_sign}
use Rattle.fixed_numeral.specs.Value.{scaled, magnitude}
use Rattle.fixed_numeral.specs.declared.radix.Radix.TheVariants.{Dec}
use Rattle.fixed_write.proofs.Public.{decimal_is, whole_digits_short, whole_digits_digit, whole_digits_more, last_digits_none, last_digits_suc, last_digits_length}
use Rattle.fixed_write.specs.Texts.{decimal_text, whole_digits, last_digits, fraction_part, point_text}

glyph_value : (d : ℕ) → d < 10 → digit_value (digit_glyph false d) ≡ d
glyph_value d h = grind arith

-- ---- the digits of the fraction
last_all : (k n : ℕ) → AllDigits 10 (last_digits 10 false k n)
last_all zero n = rw last_digits_none tt
last_all (suc k) n =
    let small : n % 10 < 10 = omega arith in
    rw last_digits_suc (digits_push 10 (last_digits 10 false k (n / 10)) (digit_glyph false (n % 10)) (last_all k (n / 10)) (omega (arith, glyph_value (n % 10) small)))

last_value : (k n : ℕ) → digits_value 10 (last_digits 10 false k n) ≡ n % 10 ^ k
last_value zero n = rw (last_digits_none, pow-zero) (sym (mod-one n))
last_value (suc k) n =
    let small : n % 10 < 10 = omega arith in
    let some : 0 < 10 ^ k = one-le-pow k 10 (omega arith) in
    let ten : 0 < 10 = omega arith in
    let value : digit_value (digit_glyph false (n % 10)) ≡ n % 10 = glyph_value (n % 10) small in
    let split = mod-mul n {m = 10 ^ k} {c = 10} some ten in
    rw last_digits_suc (digits_value_push 10 (last_digits 10 false k (n / 10)) (digit_glyph false (n % 10)) ∙ rw (last_value k (n / 10), value, pow-suc 10 k) (sym split))

-- ---- the digits of the whole part
record IsWholeText (n : ℕ) (ds : List ℕ) : Type 0 where
  pub value : digits_value 10 ds ≡ n
  pub digits : AllDigits 10 ds
  pub some : 0 < length ds

whole_digit_is : (n : ℕ) → n < 10 → IsWholeText n (whole_digits 10 false n)
whole_digit_is n small =
    let value : digit_value (digit_glyph false n) ≡ n = glyph_value n small in
    rw (whole_digits_digit 10 false n (omega arith) small) (record { value = omega (arith, value); digits = (omega (arith, value), tt); some = omega arith })

whole_more_is : (n : ℕ) → 10 ≤ n → IsWholeText (n / 10) (whole_digits 10 false (n / 10)) → IsWholeText n (whole_digits 10 false n)
whole_more_is n big h =
    let small : n % 10 < 10 = omega arith in
    let value : digit_value (digit_glyph false (n % 10)) ≡ n % 10 = glyph_value (n % 10) small in
    rw (whole_digits_more 10 false n (omega arith) big) (record {
      value = digits_value_push 10 (whole_digits 10 false (n / 10)) (digit_glyph false (n % 10)) ∙ rw (h.value, value) (div-add-mod' n 10);
      digits = digits_push 10 (whole_digits 10 false (n / 10)) (digit_glyph false (n % 10)) h.digits (omega (arith, value));
      some = omega (arith, length-append (whole_digits 10 false (n / 10)) (digit_glyph false (n % 10) ∷ []));
    })

whole_is : (fuel n : ℕ) → n ≤ fuel → IsWholeText n (whole_digits 10 false n)
whole_is zero n l = whole_digit_is n (omega arith)
whole_is (suc fuel) n l = ⊎_elim
    (λ small. whole_digit_is n small)
    (λ (big : 10 ≤ n). whole_more_is n big (whole_is fuel (n / 10) (omega arith)))
    (cases_lt n 10)

whole_text_is : (n : ℕ) → IsWholeText n (whole_digits 10 false n)
whole_text_is n = whole_is n n (omega arith)

-- ---- the parts of the text
abbrev sign_of : Bool → Option ℕ
sign_of true = Some minus
sign_of false = None

abbrev fraction_of : ℕ → ℕ → Option (List ℕ)
fraction_of zero n = None
fraction_of (suc k) n = Some (last_digits 10 false (suc k) n)

abbrev text_parts : Bool → ℕ → ℕ → Parts
text_parts negative n k = record { sign = sign_of negative; whole = whole_digits 10 false (n / 10 ^ k); fraction = fraction_of k n; exponent = None }

text_of_parts : (negative : Bool) (n k : ℕ) → decimal_text negative n k ≡ text_of (text_parts negative n k)
unfolding decimal_text point_text fraction_part
text_of_parts true n zero = simp append-nil
text_of_parts true n (suc k) = simp append-nil
text_of_parts false n zero = simp append-nil
text_of_parts false n (suc k) = simp append-nil

sign_is : (negative : Bool) → IfSome (sign_of negative) (λ b. IsTrue (is_sign b))
sign_is true = refl
sign_is false = tt

fraction_is : (k n : ℕ) → IfSome (fraction_of k n) (AllDigits 10)
fraction_is zero n = tt
fraction_is (suc k) n = last_all (suc k) n

text_is_numeral : (negative : Bool) (n k : ℕ) → HasNumeral Dec (decimal_text negative n k) (text_parts negative n k)
text_is_numeral negative n k =
    let whole = whole_text_is (n / 10 ^ k) in
    record {
      beginning = record {
        parts = record { sign = sign_is negative; whole = whole.digits; fraction = fraction_is k n; exponent = tt };
        text = text_of_parts negative n k;
      };
      mantissa = omega (arith, length-append (whole_digits 10 false (n / 10 ^ k)) (fractional_digits (fraction_of k n)), whole.some);
      exponent = tt;
    }

-- ---- the number of these parts
fraction_length : (k n : ℕ) → length (fractional_digits (fraction_of k n)) ≡ k
fraction_length zero n = refl
fraction_length (suc k) n = last_digits_length 10 false (suc k) n

value_after : (n : ℕ) (ys : List ℕ) → digits_value_after 10 n ys ≡ n * 10 ^ length ys + digits_value 10 ys
value_after n [] = rw pow-zero (omega arith)
value_after n (y ∷ ys) = value_after (n * 10 + digit_value y) ys ∙ rw (value_after (0 * 10 + digit_value y) ys, pow-suc) (joined n (10 ^ length ys) (digit_value y) (digits_value 10 ys))
  where
    joined : (n s v r : ℕ) → (n * 10 + v) * s + r ≡ n * (s * 10) + ((0 * 10 + v) * s + r)
    joined n s v r = omega arith

value_append : (xs ys : List ℕ) → digits_value 10 (xs ++ ys) ≡ digits_value 10 xs * 10 ^ length ys + digits_value 10 ys
value_append xs ys = after_append 0 xs ∙ value_after (digits_value 10 xs) ys
  where
    after_append : (n : ℕ) (xs : List ℕ) → digits_value_after 10 n (xs ++ ys) ≡ digits_value_after 10 (digits_value_after 10 n xs) ys
    after_append n [] = refl
    after_append n (x ∷ xs) = after_append (n * 10 + digit_value x) xs

mantissa_value : (k n : ℕ) → digits_value 10 (whole_digits 10 false (n / 10 ^ k) ++ fractional_digits (fraction_of k n)) ≡ n
mantissa_value zero n = rw append-nil ((whole_text_is (n / 10 ^ 0)).value ∙ rw pow-zero (div-one n))
mantissa_value (suc k) n =
    value_append (whole_digits 10 false (n / 10 ^ suc k)) (last_digits 10 false (suc k) n) ∙
    (let l = last_digits_length 10 false (suc k) n in
    rw (l, (whole_text_is (n / 10 ^ suc k)).value, last_value (suc k) n) (div-add-mod' n (10 ^ suc k)))

scaled_whole : (n k : ℕ) → (scaled n 1 10 (pos 0 -ℤ pos k)).num * 10 ^ k ≡ n * (scaled n 1 10 (pos 0 -ℤ pos k)).den
scaled_whole n zero = omega arith
scaled_whole n (suc k) = let z : pos 0 -ℤ pos (suc k) ≡ negsuc k = omega (arith, ints) in rw z (omega arith)

scaled_some : (n k : ℕ) → 0 < (scaled n 1 10 (pos 0 -ℤ pos k)).den
scaled_some n zero = omega arith
scaled_some n (suc k) = let z : pos 0 -ℤ pos (suc k) ≡ negsuc k = omega (arith, ints) in rw z (let p : 0 < 10 ^ suc k = one-le-pow (suc k) 10 (omega arith) in omega (arith, p))

-- ---- reading back
with_sign : (b : ℤ) → b ≡ signed (sign_of (is_negative b)) (unsigned_abs b)
with_sign (pos n) = rw (not_negative n) refl
with_sign (negsuc n) = refl

text_magnitude : (negative : Bool) (n k : ℕ) → magnitude Dec (text_parts negative n k) ≡ scaled n 1 10 (pos 0 -ℤ pos k)
text_magnitude negative n k = rw (mantissa_value k n, fraction_length k n) refl

whole_rounds : (mode : ReadMode) (negative : Bool) (num den n : ℕ) → 0 < den → num ≡ n * den → IsRounded mode negative num den n
whole_rounds mode negative num den n some e = rw e (rounded_exact mode negative n den some)

pub reads_back : DecimalTextReadsBack
reads_back mode b n =
    let p = text_parts (is_negative b) (unsigned_abs b) n in
    let value = text_magnitude (is_negative b) (unsigned_abs b) n in (
      p,
      text_is_numeral (is_negative b) (unsigned_abs b) n,
      record {
        units = unsigned_abs b;
        rounded = rw value (whole_rounds mode _ _ _ (unsigned_abs b) (scaled_some (unsigned_abs b) n) (scaled_whole (unsigned_abs b) n));
        value = with_sign b;
      },
      rw value (unsigned_abs b, scaled_whole (unsigned_abs b) n),
    )

pub text_is_the_one : DecimalTextIsTheOne
text_is_the_one b c n e =
    let one = reads_back NearestEven b n in
    let other = reads_back NearestEven c n in
    let has : HasNumeral Dec (decimal_format_text c n) one.0 = rw e at one.1 in
    let same : one.0 ≡ other.0 = parts_unique Dec (decimal_format_text c n) one.0 other.0 has.beginning other.1.beginning in
    read_decimal_unique NearestEven other.0 n b c (rw same at one.2) other.2

-- ---- the text, written piece by piece
quotient_most : (n d : ℕ) → n / d ≤ n
quotient_most n zero = omega arith
quotient_most n (suc d) = let least : n / suc d * 1 ≤ n / suc d * suc d = mul-le-mul_left (n / suc d) (omega arith) in omega (arith, least, div-add-mod' n (suc d))

text_split : (negative : Bool) (n k : ℕ) → decimal_text negative n k ≡ sign_text negative ++ (whole_digits 10 false (n / 10 ^ k) ++ fraction_part 10 false k n)
unfolding decimal_text point_text
text_split negative n k = refl

pub fraction_none : (k n : ℕ) → k ≡ 0 → fraction_part 10 false k n ≡ []
unfolding fraction_part
fraction_none zero n e = refl
fraction_none (suc k) n e = absurd (omega (arith, e))

pub text_made : (negative : Bool) (k m whole : ℕ) (out signed_out whole_out all : List ℕ) → m < 2 ^ 64 → whole ≡ m / 10 ^ k → signed_out ≡ out ++ sign_text negative → whole_out ≡ signed_out ++ signed_decimal (pos whole) → all ≡ whole_out ++ fraction_part 10 false k m → all ≡ out ++ decimal_text negative m k
text_made negative k m whole out signed_out whole_out all small ew one two three =
    let few : whole < 2 ^ 64 = rw ew (omega (arith, small, quotient_most m (10 ^ k))) in
    let digits : signed_decimal (pos whole) ≡ whole_digits 10 false (m / 10 ^ k) = decimal_is whole few ∙ ap (whole_digits 10 false) ew in
    three ∙ ap (λ xs. xs ++ fraction_part 10 false k m) (two ∙ ap (λ xs. xs ++ signed_decimal (pos whole)) one ∙ ap (λ xs. (out ++ sign_text negative) ++ xs) digits)
    ∙ append_assoc (out ++ sign_text negative) (whole_digits 10 false (m / 10 ^ k)) (fraction_part 10 false k m) ∙ append_assoc out (sign_text negative) (whole_digits 10 false (m / 10 ^ k) ++ fraction_part 10 false k m)
    ∙ ap (λ xs. out ++ xs) (sym (text_split negative m k))

pub sign_length : (negative : Bool) → length (sign_text negative) ≤ 1
sign_length true = omega arith
sign_length false = omega arith

fraction_short : (k n : ℕ) → length (fraction_part 10 false k n) ≤ k + 1
unfolding fraction_part
fraction_short zero n = omega arith
fraction_short (suc k) n = let l = last_digits_length 10 false (suc k) n in omega (arith, l)

whole_short : (n : ℕ) → n < 2 ^ 64 → length (whole_digits 10 false n) ≤ 20
whole_short n small = whole_digits_short 10 false 20 n (omega arith) (omega arith) (omega (arith, small))

pub text_short : (negative : Bool) (m k : ℕ) → m < 2 ^ 64 → k ≤ 18 → length (decimal_text negative m k) ≤ 41
text_short negative m k small few =
    let whole : length (whole_digits 10 false (m / 10 ^ k)) ≤ 20 = whole_short (m / 10 ^ k) (omega (arith, small, quotient_most m (10 ^ k))) in
    rw (text_split negative m k) (omega (arith, few, whole, length-append (sign_text negative) (whole_digits 10 false (m / 10 ^ k) ++ fraction_part 10 false k m), length-append (whole_digits 10 false (m / 10 ^ k)) (fraction_part 10 false k m), sign_length negative, fraction_short k m))
