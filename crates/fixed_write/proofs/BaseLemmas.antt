-- The digits of a whole number in a base, one by one.
use Rattle.std.proofs.Common.{◌≡◌, ℕ, zero, suc, ◌+◌, ◌*◌, ◌/◌, ◌%◌, ◌^◌, ◌<◌, ◌≤◌, Bool, true, false, List, [], ◌∷◌, ◌++◌, map, length, refl, sym, ap, ◌∙◌, arith, pow-suc, length-append, append_assoc, div-add-mod', mod-lt, mul-le-mul_right, ⊎_elim, append-nil}
use Rattle.std.specs.Prelude.{if◌then◌else◌, ◌==◌}
use Rattle.std.proofs.lemmas.Bool.{cases_lt}
use Rattle.std.specs.Fmt.{digit_glyph}
use Rattle.std.specs.Int.Digits.{digits_of, AllBelowBase}
use Rattle.std.proofs.lemmas.Int.Digits.{all_below_base_digits_of}
use Rattle.std.proofs.Math.Nat.{pow-zero, one-le-pow, pow-le-pow_right, pow-le-pow_left, div-one, div-div-eq-div-mul}
use Rattle.fixed_write.specs.Texts.{whole_digits, last_digits, zero_digit}
use Rattle.fixed_write.proofs.DigitLemmas.{whole_digits_digit, whole_digits_more, last_digits_none, last_digits_suc, last_digits_joined, last_digits_same, last_digits_length}

-- ---- decimal digits are the same in capitals
glyph_case : (u : Bool) (d : ℕ) → d < 10 → digit_glyph u d ≡ digit_glyph false d
glyph_case true d l = grind arith
glyph_case false d l = refl

glyphs_case : (u : Bool) (ds : List ℕ) → AllBelowBase 10 ds → map (digit_glyph u) ds ≡ map (digit_glyph false) ds
glyphs_case u [] h = refl
glyphs_case u (d ∷ ds) h = cons_are (digit_glyph u d) (digit_glyph false d) (map (digit_glyph u) ds) (map (digit_glyph false) ds) (glyph_case u d h.0) (glyphs_case u ds h.1)
  where
    cons_are : (a b : ℕ) (xs ys : List ℕ) → a ≡ b → xs ≡ ys → a ∷ xs ≡ b ∷ ys
    cons_are a b xs ys e f = rw (e, f) refl

pub whole_digits_case : (u : Bool) (n : ℕ) → whole_digits 10 u n ≡ whole_digits 10 false n
unfolding whole_digits
whole_digits_case u n = ap (λ (t : List ℕ). if n == 0 then zero_digit ∷ [] else t) (glyphs_case u (digits_of 10 n) (all_below_base_digits_of 10 n (omega arith)))

pub last_digits_case : (u : Bool) (k n : ℕ) → last_digits 10 u k n ≡ last_digits 10 false k n
last_digits_case u zero n = last_digits_none 10 u n ∙ sym (last_digits_none 10 false n)
last_digits_case u (suc k) n =
    let small : n % 10 < 10 = omega arith in
    last_digits_suc 10 u k n ∙ (rw (last_digits_case u k (n / 10), glyph_case u (n % 10) small) refl ∙ sym (last_digits_suc 10 false k n))

-- ---- the first digit and the others
pub record IsFirst (b : ℕ) (n first k : ℕ) : Type 0 where
  pub is_first : first ≡ n / b ^ k
  pub whole : (u : Bool) → whole_digits b u n ≡ whole_digits b u first ++ last_digits b u k n
  pub few : k ≤ 64
  pub scale : first * b ^ k ≤ n

pub leading_none : (b n : ℕ) → IsFirst b n n 0
leading_none b n = record {
  is_first = rw pow-zero (sym (div-one n));
  whole = λ u. rw last_digits_none (sym (append-nil (whole_digits b u n)));
  few = omega arith;
  scale = rw pow-zero (omega arith);
}

-- the last k + 1 digits are one digit and the last k
last_digits_first : (b : ℕ) (u : Bool) (k n : ℕ) → 0 < b → last_digits b u (suc k) n ≡ digit_glyph u (n / b ^ k % b) ∷ last_digits b u k n
last_digits_first b u k n p =
    let some : 0 < b ^ k = omega (arith, one-le-pow k b p) in
    let parts : n ≡ n / b ^ k * b ^ k + n % b ^ k = sym (div-add-mod' n (b ^ k)) in
    let below : n % b ^ k < b ^ k = mod-lt n some in
    let joined : last_digits b u (1 + k) (n / b ^ k * b ^ k + n % b ^ k) ≡ last_digits b u 1 (n / b ^ k) ++ last_digits b u k (n % b ^ k) = last_digits_joined b u 1 k (n / b ^ k) (n % b ^ k) p below in
    let same : last_digits b u k n ≡ last_digits b u k (n % b ^ k) = ap (last_digits b u k) parts ∙ last_digits_same b u k (n / b ^ k) (n % b ^ k) p in
    let one_more : suc k ≡ 1 + k = omega arith in
    ap (λ x. last_digits b u x n) one_more ∙ (ap (last_digits b u (1 + k)) parts ∙ (joined ∙ rw (same, last_digits_one b u (n / b ^ k)) refl))
  where
    last_digits_one : (b : ℕ) (u : Bool) (n : ℕ) → last_digits b u 1 n ≡ digit_glyph u (n % b) ∷ []
    last_digits_one b u n = last_digits_suc b u 0 n ∙ ap (λ (t : List ℕ). t ++ digit_glyph u (n % b) ∷ []) (last_digits_none b u (n / b))

pub leading_more : (b n first k : ℕ) → 2 ≤ b → n < 2 ^ 64 → IsFirst b n first k → b ≤ first → IsFirst b n (first / b) (suc k)
leading_more b n first k two small h l = record {
  is_first = rw (h.is_first, pow-suc) (div-div-eq-div-mul n (b ^ k) b);
  whole = λ u. h.whole u ∙ rw (whole_digits_more b u first two l, h.is_first, last_digits_first b u k n (omega arith)) (append_assoc (whole_digits b u (n / b ^ k / b)) (digit_glyph u (n / b ^ k % b) ∷ []) (last_digits b u k n));
  few = few_digits b k n first two small h.scale l;
  scale = rw pow-suc (scale_more b (b ^ k) n first (omega arith) h.scale);
}
  where
    few_digits : (b k n first : ℕ) → 2 ≤ b → n < 2 ^ 64 → first * b ^ k ≤ n → b ≤ first → suc k ≤ 64
    few_digits b k n first two small h l = ⊎_elim (λ a. omega arith) (λ (a : 64 ≤ k).
        let more : 2 ^ 64 ≤ 2 ^ k = pow-le-pow_right (omega arith) a in
        let most : 2 ^ k ≤ b ^ k = pow-le-pow_left two k in
        let one : 1 * b ^ k ≤ first * b ^ k = mul-le-mul_right (b ^ k) (omega arith) in
        absurd (omega arith)) (cases_lt k 64)

    scale_more : (b s n first : ℕ) → 0 < b → first * s ≤ n → first / b * (s * b) ≤ n
    scale_more b s n first p h =
        let less : first / b * b ≤ first = omega (arith, div-add-mod' first b) in
        let all : first / b * b * s ≤ first * s = mul-le-mul_right s less in
        omega arith

pub leading_room : (b : ℕ) (u : Bool) (n first k x most : ℕ) → 2 ≤ b → IsFirst b n first k → first < b → x + length (whole_digits b u n) ≤ most → (x < most) × (x + 1 + k ≤ most)
leading_room b u n first k x most two h l room =
    let long : length (whole_digits b u n) ≡ 1 + k = ap length (h.whole u) ∙ (length-append (whole_digits b u first) (last_digits b u k n) ∙ rw (whole_digits_digit b u first two l, last_digits_length) refl) in
    (omega arith, omega arith)

pub leading_text : (b : ℕ) (u : Bool) (n first k : ℕ) (before text after : List ℕ) → 2 ≤ b → IsFirst b n first k → first < b → text ≡ before ++ digit_glyph u first ∷ [] → after ≡ text ++ last_digits b u k n → after ≡ before ++ whole_digits b u n
leading_text b u n first k before text after two h l t a =
    a ∙ rw (t, h.whole u, whole_digits_digit b u first two l) (append_assoc before (digit_glyph u first ∷ []) (last_digits b u k n))
