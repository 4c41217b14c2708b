-- Sixteen digits at a time.
use Rattle.std.proofs.Common.{Bool, true, leb, ◌&&◌, pow-suc, ◌≡◌, ℕ, zero, suc, ◌+◌, ◌-◌, ◌*◌, ◌/◌, ◌%◌, ◌^◌, ◌<◌, ◌≤◌, false, List, [], ◌∷◌, ◌++◌, length, map, take, refl, sym, ap, ◌∙◌, arith, append_assoc, length-append, div-add-mod', mod-lt, mul-le-mul_right, ⊎_elim}
use Rattle.std.specs.Fmt.{digit_glyph}
use Rattle.std.proofs.lemmas.Bool.{cases_lt, leb-true, leb-false, and_parts}
use lib.Count.{count_leading_zeros}
use mir.Val.{bool_byte}
use Rattle.std.proofs.lemmas.Nat.{leading_top, pow-add, div_below}
use Rattle.std.proofs.Math.Nat.{one-le-pow, pow-zero, pow-le-pow_right}
use Rattle.std.proofs.Math.Seq.{take-append_seam}
use Rattle.fixed_write.specs.Texts.{last_digits, whole_digits}
use Rattle.fixed_write.specs.Inner.Lanes.{pairs_of, digits_of_pairs}
use Rattle.fixed_write.proofs.DigitLemmas.{last_digits_none, last_digits_suc, last_digits_joined, last_digits_length, whole_digits_digit, whole_digits_split, whole_digits_full}

-- ---- powers of ten
pub ten_pos : (k : ℕ) → 0 < 10 ^ k
ten_pos k = one-le-pow k 10 (omega arith)

-- a number of k digits without its last a digits
pub fits_high : (a k n : ℕ) → a ≤ k → n < 10 ^ k → n / 10 ^ a < 10 ^ (k - a)
fits_high a k n l h =
    let e : (k - a) + a ≡ k = omega arith in
    let split : 10 ^ k ≡ 10 ^ (k - a) * 10 ^ a = ap (λ i. 10 ^ i) (sym e) ∙ pow-add 10 (k - a) a in
    div_below n (10 ^ a) (10 ^ (k - a)) (ten_pos a) (omega (arith, split))

pub fits_moved : (k n : ℕ) → k ≤ 16 → n < 10 ^ k → n * 10 ^ (16 - k) < 10 ^ 16
fits_moved k n l h =
    let e : k + (16 - k) ≡ 16 = omega arith in
    let split : 10 ^ 16 ≡ 10 ^ k * 10 ^ (16 - k) = ap (λ i. 10 ^ i) (sym e) ∙ pow-add 10 k (16 - k) in
    let more : (n + 1) * 10 ^ (16 - k) ≤ 10 ^ k * 10 ^ (16 - k) = mul-le-mul_right (10 ^ (16 - k)) (omega arith) in
    let some : 0 < 10 ^ (16 - k) = ten_pos (16 - k) in
    omega (arith, split)

glyph_is : (d : ℕ) → d < 10 → digit_glyph false d ≡ 48 + d
glyph_is d l = grind arith

-- the last two digits of a number are those of n % 100
two_digits : (k n : ℕ) → last_digits 10 false (suc (suc k)) n ≡ last_digits 10 false k (n / 100) ++ (48 + n % 100 / 10) ∷ (48 + n % 100 % 10) ∷ []
two_digits k n =
    let hundreds : n / 10 / 10 ≡ n / 100 = omega arith in
    let tens : n / 10 % 10 ≡ n % 100 / 10 = omega arith in
    let ones : n % 10 ≡ n % 100 % 10 = omega arith in
    let ten : n % 100 / 10 < 10 = omega arith in
    let one : n % 100 % 10 < 10 = omega arith in
    last_digits_suc 10 false (suc k) n ∙ rw (last_digits_suc 10 false k (n / 10), hundreds, tens, ones, glyph_is (n % 100 / 10) ten, glyph_is (n % 100 % 10) one) (append_assoc (last_digits 10 false k (n / 100)) ((48 + n % 100 / 10) ∷ []) ((48 + n % 100 % 10) ∷ []))

pub pair_pushed : (n : ℕ) (old mid new : List ℕ) → n < 100 → mid ≡ old ++ (48 + n / 10) ∷ [] → new ≡ mid ++ (48 + n % 10) ∷ [] → new ≡ old ++ last_digits 10 false 2 n
pair_pushed n old mid new l e f =
    let same : n % 100 ≡ n = omega arith in
    let pair : last_digits 10 false 2 n ≡ (48 + n / 10) ∷ (48 + n % 10) ∷ [] = two_digits 0 n ∙ rw (last_digits_none, same) refl in
    f ∙ rw (e, pair) (append_assoc old ((48 + n / 10) ∷ []) ((48 + n % 10) ∷ []))

-- sixteen digits are eight pairs
pub sixteen_digits_are : (n : ℕ) → n < 10 ^ 16 → map (λ d. 48 + d) (digits_of_pairs (pairs_of n)) ≡ last_digits 10 false 16 n
sixteen_digits_are n l =
    let a : n / 100 / 100 ≡ n / 10000 = omega arith in
    let b : n / 10000 / 100 ≡ n / 10 ^ 6 = omega arith in
    let c : n / 10 ^ 6 / 100 ≡ n / 10 ^ 8 = omega arith in
    let d : n / 10 ^ 8 / 100 ≡ n / 10 ^ 10 = omega arith in
    let e : n / 10 ^ 10 / 100 ≡ n / 10 ^ 12 = omega arith in
    let f : n / 10 ^ 12 / 100 ≡ n / 10 ^ 14 = omega arith in
    let g : n / 10 ^ 14 % 100 ≡ n / 10 ^ 14 = omega arith in
    sym (two_digits 14 n ∙ rw (two_digits 12 (n / 100), a, two_digits 10 (n / 10000), b, two_digits 8 (n / 10 ^ 6), c, two_digits 6 (n / 10 ^ 8), d, two_digits 4 (n / 10 ^ 10), e, two_digits 2 (n / 10 ^ 12), f, two_digits 0 (n / 10 ^ 14), g, last_digits_none) refl)

-- the first digits of a number that is moved up are its own
pub moved_digits : (k z n : ℕ) → take k (last_digits 10 false (k + z) (n * 10 ^ z)) ≡ last_digits 10 false k n
moved_digits k z n =
    let some : 0 < 10 ^ z = one-le-pow z 10 (omega arith) in
    let same : n * 10 ^ z ≡ n * 10 ^ z + 0 = omega arith in
    let joined : last_digits 10 false (k + z) (n * 10 ^ z) ≡ last_digits 10 false k n ++ last_digits 10 false z 0 = ap (last_digits 10 false (k + z)) same ∙ last_digits_joined 10 false k z n 0 (omega arith) some in
    ap (take k) joined ∙ (ap (λ i. take i (last_digits 10 false k n ++ last_digits 10 false z 0)) (sym (last_digits_length 10 false k n)) ∙ take-append_seam (last_digits 10 false k n) (last_digits 10 false z 0))

pub moved_digits_of : (k n : ℕ) → k ≤ 16 → take k (last_digits 10 false 16 (n * 10 ^ (16 - k))) ≡ last_digits 10 false k n
moved_digits_of k n l =
    let e : k + (16 - k) ≡ 16 = omega arith in
    ap (λ i. take k (last_digits 10 false i (n * 10 ^ (16 - k)))) (sym e) ∙ moved_digits k (16 - k) n

-- ---- digits in two parts
pub pushed_length : (k n : ℕ) (old new : List ℕ) → new ≡ old ++ last_digits 10 false k n → length new ≡ length old + k
pushed_length k n old new e = ap length e ∙ (length-append old (last_digits 10 false k n) ∙ ap (λ x. length old + x) (last_digits_length 10 false k n))

pub pushed_twice : (a k n : ℕ) (old mid new : List ℕ) → a ≤ k → mid ≡ old ++ last_digits 10 false (k - a) (n / 10 ^ a) → new ≡ mid ++ last_digits 10 false a (n % 10 ^ a) → new ≡ old ++ last_digits 10 false k n
pushed_twice a k n old mid new l e f =
    let all : (k - a) + a ≡ k = omega arith in
    let parts : n / 10 ^ a * 10 ^ a + n % 10 ^ a ≡ n = div-add-mod' n (10 ^ a) in
    let joined : last_digits 10 false ((k - a) + a) (n / 10 ^ a * 10 ^ a + n % 10 ^ a) ≡ last_digits 10 false (k - a) (n / 10 ^ a) ++ last_digits 10 false a (n % 10 ^ a) = last_digits_joined 10 false (k - a) a (n / 10 ^ a) (n % 10 ^ a) (omega arith) (mod-lt n (ten_pos a)) in
    let whole : last_digits 10 false k n ≡ last_digits 10 false (k - a) (n / 10 ^ a) ++ last_digits 10 false a (n % 10 ^ a) = rw (all, parts) at joined in
    f ∙ rw (e, whole) (append_assoc old (last_digits 10 false (k - a) (n / 10 ^ a)) (last_digits 10 false a (n % 10 ^ a)))

-- ---- the number of digits of a number with b bits
-- it is b · log10(2), rounded down, or one more
abbrev fits_bits : ℕ → Bool
fits_bits b = leb (2 ^ b) (10 ^ (b * 1233 / 4096 + 1)) && leb (10 ^ (b * 1233 / 4096)) (10 * 2 ^ (b - 1))

abbrev fit_up_to : ℕ → Bool
fit_up_to zero = true
fit_up_to (suc b) = fits_bits (suc b) && fit_up_to b

fit_at : (most b : ℕ) → fit_up_to most ≡ true → 0 < b → b ≤ most → fits_bits b ≡ true
fit_at zero b h p l = absurd (omega arith)
fit_at (suc most) b h p l = ⊎_elim (λ less. fit_at most b (and_parts (fits_bits (suc most)) (fit_up_to most) h).1 p (omega arith)) (λ same.
    let is : b ≡ suc most = omega arith in
    rw is (and_parts (fits_bits (suc most)) (fit_up_to most) h).0) (cases_lt b (suc most))

few_bits : (b n : ℕ) → 2 ^ (b - 1) ≤ n → n < 10 ^ 16 → b ≤ 54
few_bits b n l h = ⊎_elim (λ (more : 54 < b).
    let more' : 54 ≤ b - 1 = omega arith in
    let big : 2 ^ 54 ≤ 2 ^ (b - 1) = pow-le-pow_right (omega arith) more' in
    absurd (omega arith)) (λ a. a) (cases_lt 54 b)

-- n has t or t + 1 digits, and t is at most 16
pub record HasFewest (n t : ℕ) : Type 0 where
  pub high : n < 10 ^ (t + 1)
  pub low : 10 ^ t ≤ 10 * n
  pub few : t ≤ 16

pub fewest_of : (n b : ℕ) → 0 < b → 2 ^ (b - 1) ≤ n → n < 2 ^ b → n < 10 ^ 16 → HasFewest n (b * 1233 / 4096)
fewest_of n b p low high small =
    let few : b ≤ 54 = few_bits b n low small in
    let both = and_parts (leb (2 ^ b) (10 ^ (b * 1233 / 4096 + 1))) (leb (10 ^ (b * 1233 / 4096)) (10 * 2 ^ (b - 1))) (fit_at 54 b refl p few) in
    record {
      high = omega (arith, leb-true (2 ^ b) (10 ^ (b * 1233 / 4096 + 1)) both.0);
      low = omega (arith, leb-true (10 ^ (b * 1233 / 4096)) (10 * 2 ^ (b - 1)) both.1);
      few = omega arith;
    }

pub fewer_low : (n t : ℕ) → 0 < n → HasFewest n t → n < 10 ^ t → (0 < t) × (10 ^ (t - 1) ≤ n)
fewer_low n zero p h l = absurd (omega (arith, pow-zero 10))
fewer_low n (suc t) p h l =
    let same : suc t - 1 ≡ t = omega arith in
    let low : 10 ^ t * 10 ≤ 10 * n = rw pow-suc at h.low in
    (omega arith, rw same (omega arith))

-- n has k digits
pub record IsCount (n k : ℕ) : Type 0 where
  pub some : 0 < k
  pub most : k ≤ 16
  pub low : 10 ^ (k - 1) ≤ n
  pub high : n < 10 ^ k

count_is : (n t k : ℕ) (b : Bool) → (b ≡ true → 10 ^ t ≤ n) → (b ≡ false → n < 10 ^ t) → 0 < n → n < 10 ^ 16 → HasFewest n t → k ≡ t + bool_byte b → IsCount n k
count_is n t k true up down p small h e =
    let is : k ≡ t + 1 = omega arith in
    let back : k - 1 ≡ t = omega arith in
    record {
      some = omega arith;
      most = ⊎_elim (λ (l : t < 16). omega arith) (λ (l : 16 ≤ t).
          let same : t ≡ 16 = omega (arith, h.few) in
          let full : 10 ^ 16 ≤ n = rw same at (up refl) in
          absurd (omega arith)) (cases_lt t 16);
      low = rw back (up refl);
      high = rw is h.high;
    }
count_is n t k false up down p small h e =
    let is : k ≡ t = omega arith in
    let low = fewer_low n t p h (down refl) in
    rw is (record { some = low.0; most = h.few; low = low.1; high = down refl })

pub counted : (n z k w : ℕ) → 0 < n → n < 10 ^ 16 → z ≡ count_leading_zeros 64 n → w ≡ 10 ^ ((64 - z) * 1233 / 4096) → k ≡ (64 - z) * 1233 / 4096 + bool_byte (leb w n) → IsCount n k
counted n z k w p small zeros e f =
    let (j, sum, low, high) = leading_top 64 n p (omega arith) in
    let bits : 64 - z ≡ suc j = omega arith in
    let back : 64 - z - 1 ≡ j = omega arith in
    let fewest : HasFewest n ((64 - z) * 1233 / 4096) = fewest_of n (64 - z) (omega arith) (rw back low) (rw bits high) small in
    count_is n ((64 - z) * 1233 / 4096) k (leb w n) (λ t. omega (arith, leb-true w n t)) (λ t. omega (arith, leb-false w n t)) p small fewest f

-- ---- whole numbers
pub whole_digit : (n : ℕ) → n < 10 → whole_digits 10 false n ≡ (48 + n) ∷ []
whole_digit n l = whole_digits_digit 10 false n (omega arith) l ∙ rw (glyph_is n l) refl

pub whole_counted : (n k : ℕ) → 0 < k → 10 ^ (k - 1) ≤ n → n < 10 ^ k → whole_digits 10 false n ≡ last_digits 10 false k n
whole_counted n zero p l h = absurd (omega arith)
whole_counted n (suc k) p l h =
    let same : suc k - 1 ≡ k = omega arith in
    whole_digits_full 10 false k n (omega arith) (rw same at l) h

whole_parts : (a n : ℕ) → 10 ^ a ≤ n → whole_digits 10 false n ≡ whole_digits 10 false (n / 10 ^ a) ++ last_digits 10 false a (n % 10 ^ a)
whole_parts a n l = ap (whole_digits 10 false) (sym (div-add-mod' n (10 ^ a))) ∙ whole_digits_split 10 false a (n / 10 ^ a) (n % 10 ^ a) (omega arith) (whole_some a n l) (mod-lt n (ten_pos a))
  where
    whole_some : (a n : ℕ) → 10 ^ a ≤ n → 0 < n / 10 ^ a
    whole_some a n l = ⊎_elim (λ b. b) (λ (b : n / 10 ^ a ≤ 0).
        let none : n / 10 ^ a ≡ 0 = omega arith in
        let same : 0 * 10 ^ a + n % 10 ^ a ≡ n = rw none at (div-add-mod' n (10 ^ a)) in
        absurd (omega (arith, mod-lt n (ten_pos a)))) (cases_lt 0 (n / 10 ^ a))

pub whole_parts_length : (a n : ℕ) → 10 ^ a ≤ n → length (whole_digits 10 false n) ≡ length (whole_digits 10 false (n / 10 ^ a)) + a
whole_parts_length a n l = ap length (whole_parts a n l) ∙ (length-append (whole_digits 10 false (n / 10 ^ a)) (last_digits 10 false a (n % 10 ^ a)) ∙ ap (λ x. length (whole_digits 10 false (n / 10 ^ a)) + x) (last_digits_length 10 false a (n % 10 ^ a)))

pub whole_pushed : (a n : ℕ) (old mid new : List ℕ) → 10 ^ a ≤ n → mid ≡ old ++ whole_digits 10 false (n / 10 ^ a) → new ≡ mid ++ last_digits 10 false a (n % 10 ^ a) → new ≡ old ++ whole_digits 10 false n
whole_pushed a n old mid new l e f = f ∙ rw (e, whole_parts a n l) (append_assoc old (whole_digits 10 false (n / 10 ^ a)) (last_digits 10 false a (n % 10 ^ a)))
