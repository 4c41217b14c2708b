-- The decade of a value, and its figures rounded there.
use Rattle.std.proofs.Common.{◌≡◌, ℕ, zero, suc, ◌+◌, ◌-◌, ◌*◌, ◌/◌, ◌%◌, ◌^◌, ◌<◌, ◌≤◌, ◌⊎◌, true, false, List, [], ◌∷◌, ◌++◌, take, drop, length, replicate, refl, sym, ap, ◌∙◌, inl, inr, ⊎_elim, arith, pow-suc, div-add-mod', mod-lt, mul-le-mul_right, length-append, append-nil, min}
use Rattle.std.proofs.lemmas.Nat.{pow-add, div_below}
use Rattle.std.proofs.lemmas.Bool.{cases_lt}
use Rattle.std.proofs.Math.Nat.{one-le-pow, pow-le-pow_right, pow-zero, eq_of_mul-eq-mul_right}
use Rattle.std.proofs.Math.Seq.{take-append_seam}
use Rattle.std.specs.Fmt.{digit_glyph}
use Rattle.fixed_bits.specs.Nearest.{IsNearest}
use Rattle.fixed_bits.proofs.Public.{nearest_scaled, nearest_by_rest}
use Rattle.fixed_write.specs.Texts.{whole_digits, last_digits, fraction_part, point_text, zero_digit}
use Rattle.fixed_write.specs.Inner.Figures.{IsLeading, HasRoundedFigures}
use Rattle.fixed_write.proofs.DigitLemmas.{whole_digits_split, whole_digits_full, whole_digits_digit, whole_digits_more, last_digits_length, last_digits_none, last_digits_same, fraction_none, fraction_suc}
use Rattle.fixed_write.proofs.StyledLemmas.{all_exact, zeros_last}

ten_pos : (k : ℕ) → 0 < 10 ^ k
ten_pos k = one-le-pow k 10 (omega arith)

-- ---- the decade of a whole number
pub record Decade (n first k : ℕ) : Type 0 where
  pub some : 1 ≤ first
  pub low : first * 10 ^ k ≤ n
  pub high : n < (first + 1) * 10 ^ k

pub decade_none : (n : ℕ) → 0 < n → Decade n n 0
decade_none n p = record { some = p; low = omega arith; high = omega arith }

pub decade_more : (n first k : ℕ) → Decade n first k → 10 ≤ first → Decade n (first / 10) (suc k)
decade_more n first k h l =
    let below : first / 10 * 10 ≤ first = omega arith in
    let above : first + 1 ≤ (first / 10 + 1) * 10 = omega arith in
    let low : first / 10 * 10 * 10 ^ k ≤ first * 10 ^ k = mul-le-mul_right (10 ^ k) below in
    let high : (first + 1) * 10 ^ k ≤ (first / 10 + 1) * 10 * 10 ^ k = mul-le-mul_right (10 ^ k) above in
    record {
      some = omega arith;
      low = rw pow-suc (omega (arith, low, h.low));
      high = rw pow-suc (omega (arith, high, h.high));
    }

pub decade_low : (n first k : ℕ) → Decade n first k → 10 ^ k ≤ n
decade_low n first k h = let l : 1 * 10 ^ k ≤ first * 10 ^ k = mul-le-mul_right (10 ^ k) h.some in omega (arith, h.low)

pub decade_high : (n first k : ℕ) → Decade n first k → first < 10 → n < 10 ^ (k + 1)
decade_high n first k h l =
    let more : (first + 1) * 10 ^ k ≤ 10 * 10 ^ k = mul-le-mul_right (10 ^ k) (omega arith) in
    let power : 10 ^ (k + 1) ≡ 10 * 10 ^ k = (let e : k + 1 ≡ suc k = omega arith in ap (λ i. 10 ^ i) e ∙ rw pow-suc (omega arith)) in
    omega (arith, h.high)

pub decade_few : (n first k : ℕ) → n < 2 ^ 64 → Decade n first k → k ≤ 19
decade_few n first k small h = ⊎_elim (λ a. omega arith) (λ (a : 20 ≤ k).
    let big : 10 ^ 20 ≤ 10 ^ k = pow-le-pow_right (omega arith) a in
    absurd (omega (arith, decade_low n first k h))) (cases_lt k 20)

-- ---- zeros after the point
pub record Below (r s d l : ℕ) : Type 0 where
  pub scaled : r * 10 ^ s ≡ d * 2 ^ 64 + l
  pub digit : d < 10
  pub left : l < 2 ^ 64
  pub few : s ≤ 20

pub below_starts : (r d l : ℕ) → r < 2 ^ 64 → d ≡ r * 10 / 2 ^ 64 → l ≡ r * 10 % 2 ^ 64 → Below r 1 d l
below_starts r d l small e f = record { scaled = omega arith; digit = omega arith; left = omega arith; few = omega arith }

-- the digit at place s is zero only if s is below 20
pub below_few : (r s d l : ℕ) → 0 < r → Below r s d l → d ≡ 0 → s < 20
below_few r s d l some h e = ⊎_elim (λ a. a) (λ (a : 20 ≤ s).
    let big : 10 ^ 20 ≤ 10 ^ s = pow-le-pow_right (omega arith) a in
    let once : 1 * 10 ^ s ≤ r * 10 ^ s = mul-le-mul_right (10 ^ s) some in
    let all : r * 10 ^ s ≡ l = h.scaled ∙ rw e (omega arith) in
    absurd (omega (arith, h.left))) (cases_lt s 20)

pub below_more : (r s d l next after : ℕ) → 0 < r → Below r s d l → d ≡ 0 → next ≡ l * 10 / 2 ^ 64 → after ≡ l * 10 % 2 ^ 64 → Below r (suc s) next after
below_more r s d l next after some h e f g =
    let all : r * 10 ^ s ≡ l = h.scaled ∙ rw e (omega arith) in
    let few : s < 20 = below_few r s d l some h e in
    record {
      scaled = rw pow-suc (ten_times r (10 ^ s) l next after all f g);
      digit = omega (arith, h.left);
      left = omega arith;
      few = omega arith;
    }
  where
    ten_times : (r p l next after : ℕ) → r * p ≡ l → next ≡ l * 10 / 2 ^ 64 → after ≡ l * 10 % 2 ^ 64 → r * (p * 10) ≡ next * 2 ^ 64 + after
    ten_times r p l next after e f g =
        let times : r * (p * 10) ≡ l * 10 = omega (arith, ap (λ x. x * 10) e) in
        omega arith

pub leading_above : (w r t : ℕ) → 10 ^ t ≤ w → w < 10 ^ (t + 1) → t ≤ 19 → IsLeading (w * 2 ^ 64 + r) w r t 0
leading_above w r t low high few = record {
  scaled = omega arith;
  low = low;
  high = (let e : t + 1 ≡ suc t = omega arith in rw e at high);
  few = few;
  shift = omega arith;
  one = inl refl;
}

pub leading_below : (w r s d l : ℕ) → w ≡ 0 → Below r s d l → (d ≡ 0 → ⊥) → IsLeading r d l 0 s
leading_below w r s d l z h some = record {
  scaled = h.scaled;
  low = ⊎_elim (λ a. omega arith) (λ a. absurd (some (omega arith))) (cases_lt 0 d);
  high = omega (arith, h.digit);
  few = omega arith;
  shift = h.few;
  one = inr refl;
}

-- ---- figures after a single division

pub ten_more : (k : ℕ) → 0 < k → 2 ≤ 10 ^ k
ten_more zero p = absurd (omega arith)
ten_more (suc k) p = rw pow-suc (omega (arith, ten_pos k))

pub near_divided : (c t p s m : ℕ) → p < t → s ≡ 10 ^ (t - p) → IsNearest c (2 ^ 64 * s) m → IsNearest (c * 10 ^ p) (2 ^ 64 * 10 ^ t) m
near_divided c t p s m l e h =
    let whole : p + (t - p) ≡ t = omega arith in
    let power : 10 ^ t ≡ 10 ^ p * 10 ^ (t - p) = ap (λ i. 10 ^ i) (sym whole) ∙ pow-add 10 p (t - p) in
    let scaled = (nearest_scaled (10 ^ p) c (2 ^ 64 * s) m (ten_pos p)).1 h in
    let num : c * 10 ^ p ≡ 10 ^ p * c = omega arith in
    let den : 2 ^ 64 * 10 ^ t ≡ 10 ^ p * (2 ^ 64 * s) = rw (power, e) (turned (10 ^ p) (10 ^ (t - p))) in
    rw (num, den) scaled
  where
    turned : (a b : ℕ) → 2 ^ 64 * (a * b) ≡ a * (2 ^ 64 * b)
    turned a b = omega arith

pub whole_kept : (c t p m : ℕ) (digits : List ℕ) → IsNearest (c * 10 ^ p) (2 ^ 64 * 10 ^ t) m → (m ≡ 10 ^ (p + 1) → ⊥) → digits ≡ [] ++ whole_digits 10 false m → HasRoundedFigures p c t digits 0 false
whole_kept c t p m digits h other e = record {
  number = m;
  near = h;
  kept = λ f. ((λ i. other (let same : p + 1 ≡ suc p = omega arith in rw same i)), append-nil digits ∙ e);
  raised = λ f. (let clash : false ≡ true = f in cc);
}

pub whole_raised : (c t p m : ℕ) (digits : List ℕ) → IsNearest (c * 10 ^ p) (2 ^ 64 * 10 ^ t) m → m ≡ 10 ^ (p + 1) → digits ≡ [] ++ whole_digits 10 false (10 ^ p) → HasRoundedFigures p c t digits 0 true
whole_raised c t p m digits h same e = record {
  number = m;
  near = h;
  kept = λ f. (let clash : true ≡ false = f in cc);
  raised = λ f. ((let one : p + 1 ≡ suc p = omega arith in rw one at same), append-nil digits ∙ e);
}

-- ---- figures at places
nearest_at_least : (num den q a : ℕ) → 0 < den → IsNearest num den q → a * den ≤ num → a ≤ q
nearest_at_least num den q a some h l = ⊎_elim (λ (b : q < a).
    let more : (q + 1) * den ≤ a * den = mul-le-mul_right den (omega arith) in
    absurd (omega (arith, h.near))) (λ b. b) (cases_lt q a)

nearest_at_most : (num den q b : ℕ) → 0 < den → IsNearest num den q → num ≤ b * den → q ≤ b
nearest_at_most num den q b some h l = ⊎_elim (λ (a : b < q).
    let more : (b + 1) * den ≤ q * den = mul-le-mul_right den (omega arith) in
    absurd (omega (arith, h.near))) (λ a. a) (cases_lt b q)

full_length : (x t : ℕ) → 10 ^ t ≤ x → x < 10 ^ suc t → length (whole_digits 10 false x) ≡ suc t
full_length x t low high = ap length (whole_digits_full 10 false t x (omega arith) low high) ∙ last_digits_length 10 false (suc t) x

-- n is the value at k places, and the first digit of the value stands at 10^t
pub record AtPlaces (c t k n : ℕ) : Type 0 where
  pub near : IsNearest (c * 10 ^ k) (2 ^ 64) n
  pub low : 10 ^ t * 10 ^ k ≤ n
  pub high : n ≤ 10 ^ suc t * 10 ^ k

pub at_places : (a b t k n : ℕ) → b < 2 ^ 64 → 10 ^ t ≤ a → a < 10 ^ suc t → IsNearest ((a * 2 ^ 64 + b) * 10 ^ k) (2 ^ 64) n → AtPlaces (a * 2 ^ 64 + b) t k n
at_places a b t k n small low high h = record {
  near = h;
  low = nearest_at_least ((a * 2 ^ 64 + b) * 10 ^ k) (2 ^ 64) n (10 ^ t * 10 ^ k) (omega arith) h (under (10 ^ t) (10 ^ k) low);
  high = nearest_at_most ((a * 2 ^ 64 + b) * 10 ^ k) (2 ^ 64) n (10 ^ suc t * 10 ^ k) (omega arith) h (over (10 ^ suc t) (10 ^ k) high);
}
  where
    under : (x s : ℕ) → x ≤ a → x * s * 2 ^ 64 ≤ (a * 2 ^ 64 + b) * s
    under x s l =
        let l' : x * 2 ^ 64 * s ≤ (a * 2 ^ 64 + b) * s = mul-le-mul_right s (omega arith) in
        omega (arith, l')

    over : (x s : ℕ) → a < x → (a * 2 ^ 64 + b) * s ≤ x * s * 2 ^ 64
    over x s l =
        let l' : (a * 2 ^ 64 + b) * s ≤ x * 2 ^ 64 * s = mul-le-mul_right s (omega arith) in
        omega (arith, l')

-- the length of the whole part tells whether rounding reached the next power of ten
part_low : (c t k n : ℕ) → AtPlaces c t k n → 10 ^ t ≤ n / 10 ^ k
part_low c t k n h = by_parts (10 ^ t) (10 ^ k) (ten_pos k) h.low
  where
    by_parts : (x s : ℕ) → 0 < s → x * s ≤ n → x ≤ n / s
    by_parts x s p l = ⊎_elim (λ (a : n / s < x).
        let more : (n / s + 1) * s ≤ x * s = mul-le-mul_right s (omega arith) in
        absurd (omega (arith, div-add-mod' n s, mod-lt n p))) (λ a. a) (cases_lt (n / s) x)

less_next : (k : ℕ) → 10 ^ k < 10 ^ suc k
less_next k = rw pow-suc (omega (arith, ten_pos k))

pub not_reached : (c t k n : ℕ) → AtPlaces c t k n → length (whole_digits 10 false (n / 10 ^ k)) ≡ t + 1 → n < 10 ^ suc t * 10 ^ k
not_reached c t k n h e = ⊎_elim (λ a. a) (λ (a : 10 ^ suc t * 10 ^ k ≤ n).
    let same : n ≡ 10 ^ suc t * 10 ^ k = omega (arith, h.high) in
    let part : n / 10 ^ k ≡ 10 ^ suc t = rw same (times_over (10 ^ suc t) (10 ^ k) (ten_pos k)) in
    let longer : length (whole_digits 10 false (n / 10 ^ k)) ≡ suc (suc t) = rw part (full_length (10 ^ suc t) (suc t) (omega arith) (less_next (suc t))) in
    absurd (omega arith)) (cases_lt n (10 ^ suc t * 10 ^ k))
  where
    times_over : (x s : ℕ) → 0 < s → x * s / s ≡ x
    times_over x s p = grind arith

pub reached : (c t k n : ℕ) → AtPlaces c t k n → (length (whole_digits 10 false (n / 10 ^ k)) ≡ t + 1 → ⊥) → n ≡ 10 ^ suc t * 10 ^ k
reached c t k n h other = ⊎_elim (λ (a : n < 10 ^ suc t * 10 ^ k).
    let below : n / 10 ^ k < 10 ^ suc t = div_below n (10 ^ k) (10 ^ suc t) (ten_pos k) a in
    let long : length (whole_digits 10 false (n / 10 ^ k)) ≡ suc t = full_length (n / 10 ^ k) t (part_low c t k n h) below in
    absurd (other (omega arith))) (λ a. omega (arith, h.high)) (cases_lt n (10 ^ suc t * 10 ^ k))

-- a number times a power of ten has zeros after its digits
pub whole_zeros : (n z : ℕ) → 0 < n → whole_digits 10 false (n * 10 ^ z) ≡ whole_digits 10 false n ++ replicate z zero_digit
whole_zeros n z some =
    let same : n * 10 ^ z ≡ n * 10 ^ z + 0 = omega arith in
    ap (whole_digits 10 false) same ∙ (whole_digits_split 10 false z n 0 (omega arith) some (ten_pos z) ∙ ap (λ (t : List ℕ). whole_digits 10 false n ++ t) (zeros_last 10 false z (omega arith)))

near_at : (c t k z n p : ℕ) → (z ≡ 0) ⊎ (k ≡ 64) → p ≡ t + (k + z) → IsNearest (c * 10 ^ k) (2 ^ 64) n → IsNearest (c * 10 ^ p) (2 ^ 64 * 10 ^ t) (n * 10 ^ z)
near_at c t k z n p (inl none) e h =
    let power : 10 ^ p ≡ 10 ^ t * 10 ^ k = ap (λ i. 10 ^ i) (let s : p ≡ t + k = omega arith in s) ∙ pow-add 10 t k in
    let scaled = (nearest_scaled (10 ^ t) (c * 10 ^ k) (2 ^ 64) n (ten_pos t)).1 h in
    let num : c * 10 ^ p ≡ 10 ^ t * (c * 10 ^ k) = rw power (turned c (10 ^ t) (10 ^ k)) in
    let den : 2 ^ 64 * 10 ^ t ≡ 10 ^ t * 2 ^ 64 = omega arith in
    let number : n * 10 ^ z ≡ n = rw (none, pow-zero) (omega arith) in
    rw (num, den, number) scaled
  where
    turned : (c a b : ℕ) → c * (a * b) ≡ a * (c * b)
    turned c a b = omega arith
near_at c t k z n p (inr full) e h =
    let h' : IsNearest (c * 10 ^ 64) (2 ^ 64) n = rw full at h in
    let exact : c * 10 ^ 64 ≡ n * 2 ^ 64 = all_exact 10 5 c 64 n refl (omega arith) h' in
    let power : 10 ^ p ≡ 10 ^ t * (10 ^ 64 * 10 ^ z) = ap (λ i. 10 ^ i) (let s : p ≡ t + (64 + z) = omega arith in s) ∙ (pow-add 10 t (64 + z) ∙ ap (λ x. 10 ^ t * x) (pow-add 10 64 z)) in
    let all : c * 10 ^ p ≡ n * 10 ^ z * (2 ^ 64 * 10 ^ t) = rw power (moved c (10 ^ t) (10 ^ 64) (10 ^ z) n exact) in
    nearest_by_rest (c * 10 ^ p) (2 ^ 64 * 10 ^ t) (n * 10 ^ z) 0 (omega (arith, all)) (omega arith) (λ tie. absurd (omega (arith, ten_pos t)))
  where
    moved : (c a b d n : ℕ) → c * b ≡ n * 2 ^ 64 → c * (a * (b * d)) ≡ n * d * (2 ^ 64 * a)
    moved c a b d n e = let f : c * b * (a * d) ≡ n * 2 ^ 64 * (a * d) = ap (λ x. x * (a * d)) e in omega arith

-- the digits of a text without its point
text_parts : (k n : ℕ) (text : List ℕ) → text ≡ [] ++ point_text 10 false k n → text ≡ whole_digits 10 false (n / 10 ^ k) ++ fraction_part 10 false k n
unfolding point_text
text_parts k n text e = e

pub whole_length_none : (k n : ℕ) (text : List ℕ) → text ≡ [] ++ point_text 10 false k n → k ≡ 0 → length text ≡ length (whole_digits 10 false (n / 10 ^ k))
whole_length_none k n text e z =
    let f : fraction_part 10 false k n ≡ [] = ap (λ i. fraction_part 10 false i n) z ∙ fraction_none 10 false n in
    ap length (text_parts k n text e) ∙ (ap (λ (t : List ℕ). length (whole_digits 10 false (n / 10 ^ k) ++ t)) f ∙ ap length (append-nil (whole_digits 10 false (n / 10 ^ k))))

pub whole_length_some : (k n : ℕ) (text : List ℕ) → text ≡ [] ++ point_text 10 false k n → 0 < k → length text ≡ length (whole_digits 10 false (n / 10 ^ k)) + (k + 1)
whole_length_some zero n text e p = absurd (omega arith)
whole_length_some (suc k) n text e p =
    omega (arith, ap length (text_parts (suc k) n text e) ∙ length-append (whole_digits 10 false (n / 10 ^ suc k)) (fraction_part 10 false (suc k) n), ap length (fraction_suc 10 false k n), last_digits_length 10 false (suc k) n)

pub whole_is : (k n whole : ℕ) (text : List ℕ) → text ≡ [] ++ point_text 10 false k n → (k ≡ 0 → whole ≡ length text) → (0 < k → whole ≡ length text - (k + 1)) → whole ≡ length (whole_digits 10 false (n / 10 ^ k))
whole_is k n whole text e none some = ⊎_elim
    (λ (a : 0 < k). omega (arith, some a, whole_length_some k n text e a))
    (λ (a : k ≤ 0). let z : k ≡ 0 = omega arith in none z ∙ whole_length_none k n text e z)
    (cases_lt 0 k)

pub all_or_none : (p t k z : ℕ) → k ≡ min (p - t) 64 → z ≡ p - t - k → (z ≡ 0) ⊎ (k ≡ 64)
all_or_none p t k z e f = ⊎_elim (λ (a : p - t < 64). inl (omega arith)) (λ (a : 64 ≤ p - t). inr (omega arith)) (cases_lt (p - t) 64)

whole_joined : (k n : ℕ) → 0 < n / 10 ^ k → whole_digits 10 false n ≡ whole_digits 10 false (n / 10 ^ k) ++ last_digits 10 false k n
whole_joined k n some =
    let parts : n / 10 ^ k * 10 ^ k + n % 10 ^ k ≡ n = div-add-mod' n (10 ^ k) in
    let last : last_digits 10 false k n ≡ last_digits 10 false k (n % 10 ^ k) = ap (last_digits 10 false k) (sym parts) ∙ last_digits_same 10 false k (n / 10 ^ k) (n % 10 ^ k) (omega arith) in
    ap (whole_digits 10 false) (sym parts) ∙ (whole_digits_split 10 false k (n / 10 ^ k) (n % 10 ^ k) (omega arith) some (mod-lt n (ten_pos k)) ∙ ap (λ (t : List ℕ). whole_digits 10 false (n / 10 ^ k) ++ t) (sym last))

drop_seam : (xs ys : List ℕ) → drop (length xs + 1) (xs ++ ys) ≡ drop 1 ys
drop_seam [] ys = ap (λ i. drop i ys) (let e : 0 + 1 ≡ 1 = omega arith in e)
drop_seam (x ∷ xs) ys = ap (λ i. drop i (x ∷ (xs ++ ys))) (let e : suc (length xs) + 1 ≡ suc (length xs + 1) = omega arith in e) ∙ drop_seam xs ys

after_point : (k n : ℕ) → drop 1 (fraction_part 10 false k n) ≡ last_digits 10 false k n
after_point zero n = ap (drop 1) (fraction_none 10 false n) ∙ sym (last_digits_none 10 false n)
after_point (suc k) n = ap (drop 1) (fraction_suc 10 false k n)

pub without_point : (k n whole : ℕ) (text : List ℕ) → 0 < n / 10 ^ k → text ≡ [] ++ point_text 10 false k n → whole ≡ length (whole_digits 10 false (n / 10 ^ k)) → take whole text ++ drop (whole + 1) text ≡ whole_digits 10 false n
without_point k n whole text some e l =
    let parts = text_parts k n text e in
    rw (parts, l, take-append_seam (whole_digits 10 false (n / 10 ^ k)) (fraction_part 10 false k n), drop_seam (whole_digits 10 false (n / 10 ^ k)) (fraction_part 10 false k n), after_point k n) (sym (whole_joined k n some))

-- ---- the figures of the rounded number
pub places_kept : (a b t k z n p whole : ℕ) (text digits : List ℕ) → b < 2 ^ 64 → 10 ^ t ≤ a → a < 10 ^ (t + 1) → (z ≡ 0) ⊎ (k ≡ 64) → p ≡ t + (k + z) → IsNearest ((a * 2 ^ 64 + b) * 10 ^ k) (2 ^ 64) n → text ≡ [] ++ point_text 10 false k n → whole ≡ length (whole_digits 10 false (n / 10 ^ k)) → whole ≡ t + 1 → digits ≡ [] ++ (take whole text ++ drop (whole + 1) text) → HasRoundedFigures p (a * 2 ^ 64 + b) t digits z false
places_kept a b t k z n p whole text digits small low high full e near et ew same ed =
    let h = at_places a b t k n small low (rw (suc_is t) at high) near in
    let below : n < 10 ^ suc t * 10 ^ k = not_reached (a * 2 ^ 64 + b) t k n h (sym ew ∙ same) in
    let lead : 10 ^ t ≤ n / 10 ^ k = part_low (a * 2 ^ 64 + b) t k n h in
    let some : 0 < n / 10 ^ k = omega (arith, lead, ten_pos t) in
    let positive : 0 < n = omega (arith, h.low, product_some (10 ^ t) (10 ^ k) (ten_pos t) (ten_pos k)) in
    record {
      number = n * 10 ^ z;
      near = near_at (a * 2 ^ 64 + b) t k z n p full e near;
      kept = λ f. (
        (λ i. not_next (10 ^ z) (ten_pos z) below (i ∙ power_is p t k z e)),
        ap (λ (x : List ℕ). x ++ replicate z zero_digit) (ed ∙ without_point k n whole text some et ew) ∙ sym (whole_zeros n z positive),
      );
      raised = λ f. (let clash : false ≡ true = f in cc);
    }
  where
    suc_is : (t : ℕ) → t + 1 ≡ suc t
    suc_is t = omega arith

    product_some : (x y : ℕ) → 0 < x → 0 < y → 0 < x * y
    product_some x y p q = let l : 1 * y ≤ x * y = mul-le-mul_right y p in omega arith

    power_is : (p t k z : ℕ) → p ≡ t + (k + z) → 10 ^ suc p ≡ 10 ^ suc t * 10 ^ k * 10 ^ z
    power_is p t k z e =
        let all : suc p ≡ suc t + k + z = omega arith in
        ap (λ i. 10 ^ i) all ∙ (pow-add 10 (suc t + k) z ∙ ap (λ x. x * 10 ^ z) (pow-add 10 (suc t) k))

    not_next : (s : ℕ) → 0 < s → n < 10 ^ suc t * 10 ^ k → n * s ≡ 10 ^ suc t * 10 ^ k * s → ⊥
    not_next s p l i = let same : n ≡ 10 ^ suc t * 10 ^ k = eq_of_mul-eq-mul_right s p n (10 ^ suc t * 10 ^ k) i in omega arith

pub places_raised : (a b t k z n p whole : ℕ) (text digits : List ℕ) → b < 2 ^ 64 → 10 ^ t ≤ a → a < 10 ^ (t + 1) → (z ≡ 0) ⊎ (k ≡ 64) → p ≡ t + (k + z) → IsNearest ((a * 2 ^ 64 + b) * 10 ^ k) (2 ^ 64) n → text ≡ [] ++ point_text 10 false k n → whole ≡ length (whole_digits 10 false (n / 10 ^ k)) → (whole ≡ t + 1 → ⊥) → digits ≡ [] ++ 49 ∷ [] → HasRoundedFigures p (a * 2 ^ 64 + b) t digits p true
places_raised a b t k z n p whole text digits small low high full e near et ew other ed =
    let h = at_places a b t k n small low (rw (suc_is t) at high) near in
    let same : n ≡ 10 ^ suc t * 10 ^ k = reached (a * 2 ^ 64 + b) t k n h (λ l. other (ew ∙ l)) in
    record {
      number = n * 10 ^ z;
      near = near_at (a * 2 ^ 64 + b) t k z n p full e near;
      kept = λ f. (let clash : true ≡ false = f in cc);
      raised = λ f. (
        ap (λ x. x * 10 ^ z) same ∙ sym (power_is p t k z e),
        ap (λ (x : List ℕ). x ++ replicate p zero_digit) ed ∙ (ap (λ (x : List ℕ). x ++ replicate p zero_digit) (sym one_digit) ∙ (sym (whole_zeros 1 p (omega arith)) ∙ ap (whole_digits 10 false) (let i : 1 * 10 ^ p ≡ 10 ^ p = omega arith in i))),
      );
    }
  where
    suc_is : (t : ℕ) → t + 1 ≡ suc t
    suc_is t = omega arith

    one_digit : whole_digits 10 false 1 ≡ 49 ∷ []
    one_digit = whole_digits_digit 10 false 1 (omega arith) (omega arith)

    power_is : (p t k z : ℕ) → p ≡ t + (k + z) → 10 ^ suc p ≡ 10 ^ suc t * 10 ^ k * 10 ^ z
    power_is p t k z e =
        let all : suc p ≡ suc t + k + z = omega arith in
        ap (λ i. 10 ^ i) all ∙ (pow-add 10 (suc t + k) z ∙ ap (λ x. x * 10 ^ z) (pow-add 10 (suc t) k))

-- ---- texts with at least one digit
pub whole_nonempty : (n : ℕ) → 0 < length (whole_digits 10 false n)
whole_nonempty n = by_size n (cases_lt n 10)
  where
    by_size : (n : ℕ) → (n < 10) ⊎ (10 ≤ n) → 0 < length (whole_digits 10 false n)
    by_size n (inl small) = omega (arith, ap length (whole_digits_digit 10 false n (omega arith) small))
    by_size n (inr big) = omega (arith, ap length (whole_digits_more 10 false n (omega arith) big) ∙ length-append (whole_digits 10 false (n / 10)) (digit_glyph false (n % 10) ∷ []))

pub take_some : (n : ℕ) (xs ys : List ℕ) → 0 < n → 0 < length xs → 0 < length (take n xs ++ ys)
take_some zero xs ys p q = absurd (omega arith)
take_some (suc n) [] ys p q = absurd (omega arith)
take_some (suc n) (x ∷ xs) ys p q = omega arith

pub whole_within : (k t whole : ℕ) (text : List ℕ) → (k ≡ 0 → whole ≡ length text) → (0 < k → whole ≡ length text - (k + 1)) → whole ≡ t + 1 → 0 < length text
whole_within k t whole text none some e = ⊎_elim (λ a. omega (arith, some a)) (λ a. omega (arith, none (omega arith))) (cases_lt 0 k)
