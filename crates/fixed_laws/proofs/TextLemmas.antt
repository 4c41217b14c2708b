-- The text of a number in a base is a numeral, and it reads back.
use Rattle.std.proofs.Common.{◌≡◌, ℕ, zero, suc, ◌+◌, ◌*◌, ◌/◌, ◌%◌, ◌^◌, ◌<◌, ◌≤◌, Bool, true, false, Option, Some, None, List, [], ◌∷◌, ◌++◌, length, ℤ, pos, negsuc, ◌-ℤ◌, IfSome, IsTrue, unsigned_abs, refl, sym, ◌∙◌, arith, pow-suc, append-nil, length-append, div-add-mod', mod-lt, mul-le-mul_left, ⊎_elim}
use Rattle.std.specs.Str.Parse.{digits_value, digits_value_after, AllDigits}
use Rattle.std.specs.Char.{digit_value}
use Rattle.std.specs.Fmt.{digit_glyph, sign_text}
use Rattle.std.specs.Int.{is_negative}
use Rattle.std.proofs.lemmas.Int.Digits.{digits_push, digits_value_push}
use Rattle.std.proofs.Math.Arith.{mod-mul}
use Rattle.std.proofs.lemmas.Int.{ints}
use Rattle.std.proofs.lemmas.Bool.{cases_lt}
use Rattle.std.proofs.Math.Nat.{one-le-pow, mod-one, div-one, pow-zero, div-lt_iff_lt-mul}
use Rattle.fixed_bits.specs.Nearest.{IsNearest}
use Rattle.fixed_bits.specs.declared.mode.ReadMode.TheVariants.{NearestEven}
use Rattle.fixed_bits.proofs.Public.{nearest_by_rest}
use Rattle.fixed_numeral.specs.declared.radix.Radix.{Radix}
use Rattle.fixed_numeral.specs.declared.radix.Radix.TheVariants.{Bin, Oct, Dec, Hex}
use Rattle.fixed_numeral.specs.Numeral.{Parts, HasNumeral, IsNumeral, base, minus, text_of, fractional_digits, signed, is_sign}
use Rattle.fixed_numeral.specs.Value.{scaled}
use Rattle.fixed_read.specs.Reading.{IsReadNumber}
use Rattle.fixed_bits.specs.declared.mode.ReadMode.{ReadMode}
use Rattle.fixed_write.specs.Shortest.{ReadsBack}
use Rattle.fixed_write.specs.Texts.{IsShortestText, decimal_text, whole_digits, last_digits, fraction_part, point_text}
use Rattle.fixed_write.specs.Places.{IsExactText, IsRoundedText}
use Rattle.fixed_write.proofs.Public.{whole_digits_digit, whole_digits_more, last_digits_none, last_digits_suc, last_digits_length}

pub glyph_value : (u : Bool) (d : ℕ) → d < 16 → digit_value (digit_glyph u d) ≡ d
glyph_value true d h = grind arith
glyph_value false d h = grind arith

-- ---- the last digits
last_all : (b : ℕ) (u : Bool) (k n : ℕ) → 0 < b → b ≤ 16 → AllDigits b (last_digits b u k n)
last_all b u zero n p q = rw last_digits_none tt
last_all b u (suc k) n p q =
    let small : n % b < b = mod-lt n p in
    rw last_digits_suc (digits_push b (last_digits b u k (n / b)) (digit_glyph u (n % b)) (last_all b u k (n / b) p q) (omega (arith, glyph_value u (n % b) (omega arith))))

last_value : (b : ℕ) (u : Bool) (k n : ℕ) → 0 < b → b ≤ 16 → digits_value b (last_digits b u k n) ≡ n % b ^ k
last_value b u zero n p q = rw (last_digits_none, pow-zero) (sym (mod-one n))
last_value b u (suc k) n p q =
    let small : n % b < b = mod-lt n p in
    let some : 0 < b ^ k = one-le-pow k b p in
    let value : digit_value (digit_glyph u (n % b)) ≡ n % b = glyph_value u (n % b) (omega arith) in
    let split = mod-mul n {m = b ^ k} {c = b} some p in
    rw last_digits_suc (digits_value_push b (last_digits b u k (n / b)) (digit_glyph u (n % b)) ∙ rw (last_value b u k (n / b) p q, value, pow-suc b k) (sym split))

-- ---- the whole digits
power_one : (b k : ℕ) → k ≡ 0 → b ^ suc k ≡ b
power_one b k e = rw (pow-suc, e, pow-zero) (omega arith)

pub record IsWholeText (b n : ℕ) (ds : List ℕ) : Type 0 where
  pub value : digits_value b ds ≡ n
  pub digits : AllDigits b ds
  pub some : 0 < length ds

whole_is : (fuel b : ℕ) (u : Bool) (n : ℕ) → 2 ≤ b → b ≤ 16 → n < b ^ suc fuel → IsWholeText b n (whole_digits b u n)
whole_is zero b u n two q l =
    let small : n < b = omega (arith, power_one b 0 refl) in
    whole_digit_is b u n two q small
  where
    whole_digit_is : (b : ℕ) (u : Bool) (n : ℕ) → 2 ≤ b → b ≤ 16 → n < b → IsWholeText b n (whole_digits b u n)
    whole_digit_is b u n two q small =
        let value : digit_value (digit_glyph u n) ≡ n = glyph_value u n (omega arith) in
        rw (whole_digits_digit b u n two small) (record { value = omega (arith, value); digits = (omega (arith, value), tt); some = omega arith })
whole_is (suc fuel) b u n two q l = ⊎_elim
    (λ small. whole_digit_is b u n two q small)
    (λ big.
    let fewer : n / b < b ^ suc fuel = less b (suc fuel) n two l in
    let lead : IsWholeText b (n / b) (whole_digits b u (n / b)) = whole_is fuel b u (n / b) two q fewer in
    whole_more_is b u n two q big lead)
    (cases_lt n b)
  where
    whole_digit_is : (b : ℕ) (u : Bool) (n : ℕ) → 2 ≤ b → b ≤ 16 → n < b → IsWholeText b n (whole_digits b u n)
    whole_digit_is b u n two q small =
        let value : digit_value (digit_glyph u n) ≡ n = glyph_value u n (omega arith) in
        rw (whole_digits_digit b u n two small) (record { value = omega (arith, value); digits = (omega (arith, value), tt); some = omega arith })

    less : (b k n : ℕ) → 2 ≤ b → n < b ^ suc k → n / b < b ^ k
    less b k n two l =
        let p : 0 < b = omega arith in
        let l' : n < b ^ k * b = rw pow-suc at l in
        (div-lt_iff_lt-mul p).1 l'

    whole_more_is : (b : ℕ) (u : Bool) (n : ℕ) → 2 ≤ b → b ≤ 16 → b ≤ n → IsWholeText b (n / b) (whole_digits b u (n / b)) → IsWholeText b n (whole_digits b u n)
    whole_more_is b u n two q big h =
        let small : n % b < b = mod-lt n (omega arith) in
        let value : digit_value (digit_glyph u (n % b)) ≡ n % b = glyph_value u (n % b) (omega arith) in
        rw (whole_digits_more b u n two big) (record {
          value = digits_value_push b (whole_digits b u (n / b)) (digit_glyph u (n % b)) ∙ rw (h.value, value) (div-add-mod' n b);
          digits = digits_push b (whole_digits b u (n / b)) (digit_glyph u (n % b)) h.digits (omega (arith, value));
          some = omega (arith, length-append (whole_digits b u (n / b)) (digit_glyph u (n % b) ∷ []));
        })

-- n is less than a power of the base
power_above : (b n : ℕ) → 2 ≤ b → n < b ^ suc n
power_above b zero two = omega (arith, one-le-pow 1 b (omega arith))
power_above b (suc n) two =
    let h = power_above b n two in
    rw pow-suc (grows (b ^ suc n) b n two h)
  where
    grows : (s b n : ℕ) → 2 ≤ b → n < s → suc n < s * b
    grows s b n two h = let twice : s * 2 ≤ s * b = mul-le-mul_left s two in omega arith

pub whole_text_is : (b : ℕ) (u : Bool) (n : ℕ) → 2 ≤ b → b ≤ 16 → IsWholeText b n (whole_digits b u n)
whole_text_is b u n two q = whole_is n b u n two q (power_above b n two)

-- ---- the parts of the text
abbrev pub sign_of : Bool → Option ℕ
sign_of true = Some minus
sign_of false = None

abbrev pub fraction_of : ℕ → Bool → ℕ → ℕ → Option (List ℕ)
fraction_of b u zero n = None
fraction_of b u (suc k) n = Some (last_digits b u (suc k) n)

abbrev pub text_parts : ℕ → Bool → Bool → ℕ → ℕ → Parts
text_parts b u negative k n = record { sign = sign_of negative; whole = whole_digits b u (n / b ^ k); fraction = fraction_of b u k n; exponent = None }

text_of_parts : (b : ℕ) (u negative : Bool) (k n : ℕ) → sign_text negative ++ point_text b u k n ≡ text_of (text_parts b u negative k n)
unfolding point_text fraction_part
text_of_parts b u true zero n = simp append-nil
text_of_parts b u true (suc k) n = simp append-nil
text_of_parts b u false zero n = simp append-nil
text_of_parts b u false (suc k) n = simp append-nil

pub sign_is : (negative : Bool) → IfSome (sign_of negative) (λ b. IsTrue (is_sign b))
sign_is true = refl
sign_is false = tt

fraction_is : (b : ℕ) (u : Bool) (k n : ℕ) → 2 ≤ b → b ≤ 16 → IfSome (fraction_of b u k n) (AllDigits b)
fraction_is b u zero n two q = tt
fraction_is b u (suc k) n two q = last_all b u (suc k) n (omega arith) q

base_low : (r : Radix) → 2 ≤ base r
base_low Bin = omega arith
base_low Oct = omega arith
base_low Dec = omega arith
base_low Hex = omega arith

base_high : (r : Radix) → base r ≤ 16
base_high Bin = omega arith
base_high Oct = omega arith
base_high Dec = omega arith
base_high Hex = omega arith

pub text_is_numeral : (r : Radix) (u negative : Bool) (k n : ℕ) → HasNumeral r (sign_text negative ++ point_text (base r) u k n) (text_parts (base r) u negative k n)
text_is_numeral r u negative k n =
    let whole = whole_text_is (base r) u (n / base r ^ k) (base_low r) (base_high r) in
    record {
      beginning = record {
        parts = record { sign = sign_is negative; whole = whole.digits; fraction = fraction_is (base r) u k n (base_low r) (base_high r); exponent = tt };
        text = text_of_parts (base r) u negative k n;
      };
      mantissa = omega (arith, length-append (whole_digits (base r) u (n / base r ^ k)) (fractional_digits (fraction_of (base r) u k n)), whole.some);
      exponent = tt;
    }

fraction_length : (b : ℕ) (u : Bool) (k n : ℕ) → length (fractional_digits (fraction_of b u k n)) ≡ k
fraction_length b u zero n = refl
fraction_length b u (suc k) n = last_digits_length b u (suc k) n

-- the value of digits after n
value_after : (b n : ℕ) (ys : List ℕ) → digits_value_after b n ys ≡ n * b ^ length ys + digits_value b ys
value_after b n [] = rw pow-zero (omega arith)
value_after b n (y ∷ ys) = value_after b (n * b + digit_value y) ys ∙ rw (value_after b (0 * b + digit_value y) ys, pow-suc) (joined n b (b ^ length ys) (digit_value y) (digits_value b ys))
  where
    joined : (n b s v r : ℕ) → (n * b + v) * s + r ≡ n * (s * b) + ((0 * b + v) * s + r)
    joined n b s v r = omega arith

value_append : (b : ℕ) (xs ys : List ℕ) → digits_value b (xs ++ ys) ≡ digits_value b xs * b ^ length ys + digits_value b ys
value_append b xs ys = after_append 0 xs ∙ value_after b (digits_value b xs) ys
  where
    after_append : (n : ℕ) (xs : List ℕ) → digits_value_after b n (xs ++ ys) ≡ digits_value_after b (digits_value_after b n xs) ys
    after_append n [] = refl
    after_append n (x ∷ xs) = after_append (n * b + digit_value x) xs

mantissa_value : (b : ℕ) (u : Bool) (k n : ℕ) (w : List ℕ) → 2 ≤ b → b ≤ 16 → digits_value b w ≡ n / b ^ k → digits_value b (w ++ fractional_digits (fraction_of b u k n)) ≡ n
mantissa_value b u zero n w two q e = rw append-nil (e ∙ rw pow-zero (div-one n))
mantissa_value b u (suc k) n w two q e =
    value_append b w (last_digits b u (suc k) n) ∙
    (let l = last_digits_length b u (suc k) n in
    rw (l, e, last_value b u (suc k) n (omega arith) q) (div-add-mod' n (b ^ suc k)))

down_by : (k : ℕ) → pos 0 -ℤ pos (suc k) ≡ negsuc k
down_by k = omega (arith, ints)

read_scaled : (b n k c g : ℕ) → 2 ≤ b → c * b ^ k ≡ n * 2 ^ g → IsNearest ((scaled n 1 b (pos 0 -ℤ pos k)).num * 2 ^ g) (scaled n 1 b (pos 0 -ℤ pos k)).den c
read_scaled b n zero c g two e =
    let same : n * b ^ 0 ≡ n = rw pow-zero (omega arith) in
    let one : c * 1 ≡ n * 2 ^ g = rw pow-zero at e in
    rw same (nearest_by_rest (n * 2 ^ g) 1 c 0 (omega arith) (omega arith) (λ t. absurd (omega arith)))
read_scaled b n (suc k) c g two e =
    let one : 1 * b ^ suc k ≡ b ^ suc k = omega arith in
    rw (down_by k, one) (nearest_by_rest (n * 2 ^ g) (b ^ suc k) c 0 (omega (arith, e)) (omega arith) (λ t. even_none (b ^ suc k) c t (one-le-pow (suc k) b (omega arith))))
  where
    even_none : (s c : ℕ) → 2 * 0 ≡ s → 0 < s → c % 2 ≡ 0
    even_none s c e p = absurd (omega arith)

not_negative : (n : ℕ) → is_negative (pos n) ≡ false
not_negative zero = refl
not_negative (suc n) = grind arith

pub with_sign : (c : ℤ) → c ≡ signed (sign_of (is_negative c)) (unsigned_abs c)
with_sign (pos n) = rw (not_negative n) refl
with_sign (negsuc n) = refl

pub exact_reads_back : (r : Radix) (u : Bool) (c : ℤ) (g : ℕ) (text : List ℕ) → IsExactText (base r) u c g text → (p : Parts) × HasNumeral r text p × IsReadNumber NearestEven r p g c
exact_reads_back r u c g text h = (
  text_parts (base r) u (is_negative c) h.places h.number,
  rw h.text_is (text_is_numeral r u (is_negative c) h.places h.number),
  record {
    ulps = unsigned_abs c;
    rounded = rw (mantissa_value (base r) u h.places h.number (whole_digits (base r) u (h.number / base r ^ h.places)) (base_low r) (base_high r) (whole_text_is (base r) u (h.number / base r ^ h.places) (base_low r) (base_high r)).value, fraction_length (base r) u h.places h.number) (read_scaled (base r) h.number h.places (unsigned_abs c) g (base_low r) h.exact.same);
    value = with_sign c;
  },
)

pub rounded_numeral : (mode : ReadMode) (r : Radix) (u : Bool) (c : ℤ) (g k : ℕ) (text : List ℕ) → IsRoundedText mode (base r) u k c g text → IsNumeral r text
rounded_numeral mode r u c g k text h = (text_parts (base r) u (is_negative c) k h.number, rw h.text_is (text_is_numeral r u (is_negative c) k h.number))

read_back : (n k c g : ℕ) → ReadsBack n k c g → IsNearest ((scaled n 1 10 (pos 0 -ℤ pos k)).num * 2 ^ g) (scaled n 1 10 (pos 0 -ℤ pos k)).den c
read_back n zero c g h =
    let same : n * 10 ^ 0 ≡ n = omega arith in
    rw same h
read_back n (suc k) c g h =
    let one : 1 * 10 ^ suc k ≡ 10 ^ suc k = omega arith in
    rw (down_by k, one) h

decimal_places : (negative : Bool) (n k : ℕ) → decimal_text negative n k ≡ sign_text negative ++ point_text 10 false k n
unfolding decimal_text
decimal_places negative n k = refl

pub default_reads_back : (c : ℤ) (g : ℕ) (text : List ℕ) → IsShortestText c g text → (p : Parts) × HasNumeral Dec text p × IsReadNumber NearestEven Dec p g c
default_reads_back c g text h = (
  text_parts 10 false (is_negative c) h.places h.number,
  rw (h.text_is ∙ decimal_places (is_negative c) h.number h.places) (text_is_numeral Dec false (is_negative c) h.places h.number),
  record {
    ulps = unsigned_abs c;
    rounded = rw (mantissa_value 10 false h.places h.number (whole_digits 10 false (h.number / 10 ^ h.places)) (omega arith) (omega arith) (whole_text_is 10 false (h.number / 10 ^ h.places) (omega arith) (omega arith)).value, fraction_length 10 false h.places h.number) (read_back h.number h.places (unsigned_abs c) g h.shortest.reads_back);
    value = with_sign c;
  },
)
