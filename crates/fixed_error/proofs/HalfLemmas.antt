-- Binary digits that are near a half at some fraction length.
use Rattle.std.proofs.Common.{◌≡◌, ◌⊎◌, ℕ, ◌+◌, ◌-◌, ◌*◌, ◌/◌, ◌%◌, ◌^◌, ◌<◌, ◌≤◌, sym, ap, ◌∙◌, subst, arith, ⊎_elim, inl, inr, bit_and, w64, mul-le-mul_right, mul-le-mul_left, div-add-mod', mod-lt}
use Rattle.std.specs.Prelude.{max, min}
use Rattle.std.specs.Int.{bit_at}
use lib.Count.{count_leading_zeros}
use Rattle.std.proofs.Math.Nat.{one-le-pow}
use Rattle.std.proofs.lemmas.Bool.{cases_lt}
use Rattle.std.proofs.lemmas.Nat.{leading_length, pow-add}
use Rattle.std.proofs.lemmas.Nat.Bits.{bit_at_above, bit_at_and, bit_at_cat_high, bit_at_cat_low, bit_at_not, bit_at_ones, bit_at_ones_above, bit_at-pow_other, bit_at-pow_same}
use Rattle.fixed_error.specs.Errors.{near_half}
use Rattle.fixed_error.specs.Inner.Words.{IsFarFromHalf}
use Rattle.fixed_error.proofs.RestLemmas.{power_within}

-- ---- shifts
pub moved_bit : (n k i : ℕ) → k ≤ i → i < 64 → bit_at (n * 2 ^ k % 2 ^ 64) i ≡ bit_at n (i - k)
moved_bit n k i from below =
    let x : ℕ = n * 2 ^ k in
    let split : x ≡ x / 2 ^ 64 * 2 ^ 64 + x % 2 ^ 64 = omega arith in
    let low : bit_at x i ≡ bit_at (x % 2 ^ 64) i = ap (λ t. bit_at t i) split ∙ bit_at_cat_low (x / 2 ^ 64) 64 (x % 2 ^ 64) i below in
    let none : x ≡ n * 2 ^ k + 0 = omega arith in
    let some : 1 ≤ 2 ^ k = one-le-pow k 2 (omega arith) in
    let high : bit_at x i ≡ bit_at n (i - k) = ap (λ t. bit_at t i) none ∙ bit_at_cat_high n k 0 i (omega (arith, some)) from in
    sym low ∙ high

-- ---- a number near a half
record IsHalf (n : ℕ) : Type 0 where
  differs : (bit_at n 63 + bit_at n 62) % 2 ≡ 1
  same : (j : ℕ) → 56 ≤ j → j < 63 → (bit_at n j + bit_at n (j - 1)) % 2 ≡ 0

half_by : (n c : ℕ) → bit_at n 63 + c ≡ 1 → ((j : ℕ) → 55 ≤ j → j < 63 → bit_at n j ≡ c) → IsHalf n
half_by n c first others = record {
  differs = let e = others 62 (omega arith) (omega arith) in omega (arith, first, e);
  same = λ j from below. let a = others j (omega (arith, from)) below in let b = others (j - 1) (omega (arith, from)) (omega (arith, below)) in omega (arith, a, b);
}

just_below : (s : ℕ) → s < 2 ^ 55 → IsHalf (255 * 2 ^ 55 + s)
just_below s small = half_by (255 * 2 ^ 55 + s) 1
    (let e : bit_at (255 * 2 ^ 55 + s) 63 ≡ bit_at 255 8 = bit_at_cat_high 255 55 s 63 small (omega arith) in omega (arith, e ∙ bit_at_ones_above 8 8 (omega arith)))
    (λ j from below. bit_at_cat_high 255 55 s j small from ∙ bit_at_ones 8 (j - 55) (omega (arith, from, below)))

just_above : (s : ℕ) → s < 2 ^ 55 → IsHalf (256 * 2 ^ 55 + s)
just_above s small = half_by (256 * 2 ^ 55 + s) 0
    (let e : bit_at (256 * 2 ^ 55 + s) 63 ≡ bit_at 256 8 = bit_at_cat_high 256 55 s 63 small (omega arith) in omega (arith, e ∙ bit_at-pow_same 8))
    (λ j from below. bit_at_cat_high 256 55 s j small from ∙ bit_at-pow_other 8 (j - 55) (omega (arith, below)))

half_of : (n : ℕ) → 2 ^ 63 ≤ n + 2 ^ 55 → n < 2 ^ 63 + 2 ^ 55 → IsHalf n
half_of n low high = ⊎_elim
    (λ (less : n < 2 ^ 63). let e : 255 * 2 ^ 55 + (n - 255 * 2 ^ 55) ≡ n = omega (arith, low) in subst IsHalf e (just_below (n - 255 * 2 ^ 55) (omega (arith, less))))
    (λ (more : 2 ^ 63 ≤ n). let e : 256 * 2 ^ 55 + (n - 256 * 2 ^ 55) ≡ n = omega (arith, more) in subst IsHalf e (just_above (n - 256 * 2 ^ 55) (omega (arith, high))))
    (cases_lt n (2 ^ 63))

-- ---- digits that differ from the next one
far_by : (digits changes after near f : ℕ) → f < 53 → ((i : ℕ) → 1 ≤ i → i < 64 → bit_at changes i ≡ (bit_at digits i + bit_at digits (i - 1)) % 2)
    → ((i : ℕ) → 7 ≤ i → i < 64 → ((k : ℕ) → k < 7 → bit_at changes (i - 1 - k) ≡ 0) → bit_at after i ≡ 0)
    → bit_at near (63 - f) ≡ min (bit_at changes (63 - f)) (1 - bit_at after (63 - f)) → bit_at near (63 - f) ≡ 0 → IsFarFromHalf digits f
far_by digits changes after near f few change any both is =
    let r : ℕ = digits * 2 ^ f % 2 ^ 64 in
    ⊎_elim
    (λ (low : r + 2 ^ 55 < 2 ^ 63). inl low)
    (λ (high : 2 ^ 63 ≤ r + 2 ^ 55). ⊎_elim
    (λ (less : r < 2 ^ 63 + 2 ^ 55). absurd (clash (half_of r high less)))
    (λ (more : 2 ^ 63 + 2 ^ 55 ≤ r). inr more)
    (cases_lt r (2 ^ 63 + 2 ^ 55)))
    (cases_lt (r + 2 ^ 55) (2 ^ 63))
  where
    digit : (j : ℕ) → f ≤ j → j < 64 → bit_at digits (j - f) ≡ bit_at (digits * 2 ^ f % 2 ^ 64) j
    digit j from below = sym (moved_bit digits f j from below)

    change_at : (j : ℕ) → 56 ≤ j → j < 64 → bit_at changes (j - f) ≡ (bit_at (digits * 2 ^ f % 2 ^ 64) j + bit_at (digits * 2 ^ f % 2 ^ 64) (j - 1)) % 2
    change_at j from below =
        let before : j - f - 1 ≡ j - 1 - f = omega arith in
        change (j - f) (omega (arith, from, few)) (omega (arith, below))
        ∙ ap (λ t. (t + bit_at digits (j - f - 1)) % 2) (digit j (omega (arith, from, few)) below)
        ∙ ap (λ t. (bit_at (digits * 2 ^ f % 2 ^ 64) j + t) % 2) (ap (bit_at digits) before ∙ digit (j - 1) (omega (arith, from, few)) (omega (arith, below)))

    clash : IsHalf (digits * 2 ^ f % 2 ^ 64) → ⊥
    clash h =
        let i : ℕ = 63 - f in
        let one : bit_at changes i ≡ 1 = change_at 63 (omega arith) (omega arith) ∙ h.differs in
        let zeros_are : (k : ℕ) → k < 7 → bit_at changes (i - 1 - k) ≡ 0 = λ k less.
        let e : i - 1 - k ≡ 62 - k - f = omega arith in
        ap (bit_at changes) e ∙ change_at (62 - k) (omega (arith, less)) (omega arith) ∙ h.same (62 - k) (omega (arith, less)) (omega arith) in
        let none : bit_at after i ≡ 0 = any i (omega (arith, few)) (omega arith) zeros_are in
        omega (arith, one, none, both, is)

pub far_place : (digits changes after f : ℕ) → after < 2 ^ 64 → ((i : ℕ) → 1 ≤ i → i < 64 → bit_at changes i ≡ (bit_at digits i + bit_at digits (i - 1)) % 2)
    → ((i : ℕ) → 7 ≤ i → i < 64 → ((k : ℕ) → k < 7 → bit_at changes (i - 1 - k) ≡ 0) → bit_at after i ≡ 0)
    → f < 53 → bit_at (bit_and changes (18446744073709551615 - after)) (63 - f) ≡ 0 → IsFarFromHalf digits f
far_place digits changes after f small change any few is =
    let other : ℕ = 18446744073709551615 - after in
    let i : ℕ = 63 - f in
    let turned : bit_at other i ≡ 1 - bit_at after i = bit_at_not w64 after i small (omega arith) in
    let both = bit_at_and changes other i ∙ ap (λ t. min (bit_at changes i) t) turned in
    far_by digits changes after (bit_and changes other) f few change any both is

-- the digits between one place and the next place with a one are zeros
pub none_before : (n moved from f : ℕ) → moved < 2 ^ 64 → ((i : ℕ) → from ≤ i → i < 64 → bit_at moved i ≡ bit_at n (i - from)) → from ≤ f → f < 64 → f < from + count_leading_zeros 64 moved → bit_at n (63 - f) ≡ 0
none_before n moved from f small at order below less =
    let m = leading_length 64 moved small in
    let long = m.1 in
    let i : ℕ = 63 + from - f in
    let e : i - from ≡ 63 - f = omega (arith, below, order) in
    ap (bit_at n) (sym e) ∙ sym (at i (omega (arith, below)) (omega (arith, order))) ∙ bit_at_above moved m.0 i m.2 (omega (arith, long, less, below, order))

joined_none : (digits result places i : ℕ) → places ≤ i → i < 64 → ((j : ℕ) → places ≤ j → j < 64 → bit_at result j ≡ max (bit_at digits j) (bit_at digits (j - places))) → bit_at digits i ≡ 0 → bit_at digits (i - places) ≡ 0 → bit_at result i ≡ 0
joined_none digits result places i from below h one other = let e = h i from below in omega (arith, e, one, other)

pub none_of_seven : (digits two four seven moved i : ℕ) → 7 ≤ i → i < 64 → ((j : ℕ) → 1 ≤ j → j < 64 → bit_at two j ≡ max (bit_at digits j) (bit_at digits (j - 1)))
    → ((j : ℕ) → 2 ≤ j → j < 64 → bit_at four j ≡ max (bit_at two j) (bit_at two (j - 2))) → ((j : ℕ) → 3 ≤ j → j < 64 → bit_at seven j ≡ max (bit_at four j) (bit_at four (j - 3)))
    → ((j : ℕ) → 1 ≤ j → j < 64 → bit_at moved j ≡ bit_at seven (j - 1)) → ((k : ℕ) → k < 7 → bit_at digits (i - 1 - k) ≡ 0) → bit_at moved i ≡ 0
none_of_seven digits two four seven moved i from below at_two at_four at_seven at_moved none =
    at_moved i (omega (arith, from)) below ∙ joined_none four seven 3 (i - 1) (omega (arith, from)) (omega (arith, below)) at_seven (ap (bit_at four) first ∙ four_at 0 (omega arith)) (four_at 3 (omega arith))
  where
    two_at : (k : ℕ) → k < 6 → bit_at two (i - 1 - k) ≡ 0
    two_at k less =
        let e : i - 1 - (k + 1) ≡ i - 1 - k - 1 = omega arith in
        joined_none digits two 1 (i - 1 - k) (omega (arith, from, less)) (omega (arith, below)) at_two (none k (omega (arith, less))) (ap (bit_at digits) (sym e) ∙ none (k + 1) (omega (arith, less)))

    four_at : (k : ℕ) → k < 4 → bit_at four (i - 1 - k) ≡ 0
    four_at k less =
        let e : i - 1 - (k + 2) ≡ i - 1 - k - 2 = omega arith in
        joined_none two four 2 (i - 1 - k) (omega (arith, from, less)) (omega (arith, below)) at_four (two_at k (omega (arith, less))) (ap (bit_at two) (sym e) ∙ two_at (k + 2) (omega (arith, less)))

    first : i - 1 ≡ i - 1 - 0
    first = omega arith

-- ---- binary digits of parts of 10^-18
pub digits_fit : (word : ℕ) → word < 10 ^ 18 → word * 10633823966279326983 / 2 ^ 59 < 2 ^ 64
digits_fit word below = omega (arith, below)

pub digits_least : (word : ℕ) → word * 10633823966279326983 / 2 ^ 59 * 10 ^ 18 ≤ word * 2 ^ 64
digits_least word = omega arith

pub digits_most : (word : ℕ) → word < 10 ^ 18 → word * 2 ^ 64 < (word * 10633823966279326983 / 2 ^ 59 + 3) * 10 ^ 18
digits_most word below = omega (arith, below)

near_by : (s q r p m : ℕ) → s < 10 ^ 18 → r < 2 ^ 64 → m ≤ 3 * 10 ^ 18 * 2 ^ 52 → (q * 10 ^ 18 + s) * 2 ^ 64 ≡ (p * 2 ^ 64 + r) * 10 ^ 18 + m → (r + 2 ^ 55 < 2 ^ 63) ⊎ (2 ^ 63 + 2 ^ 55 ≤ r) → min s (10 ^ 18 - s) < near_half
near_by s q r p m below small few e far = ⊎_elim
    (λ (less : q < p). absurd (omega (arith, less, below, small, e)))
    (λ (most : p ≤ q). ⊎_elim
    (λ (more : p < q). omega (arith, more, below, small, few, e))
    (λ (same : q ≤ p). let is : q ≡ p = omega (arith, most, same) in omega (arith, is, below, small, few, e, far))
    (cases_lt p q))
    (cases_lt q p)

pub far_near : (word digits f : ℕ) → word < 10 ^ 18 → f < 53 → digits * 10 ^ 18 ≤ word * 2 ^ 64 → word * 2 ^ 64 < (digits + 3) * 10 ^ 18 → IsFarFromHalf digits f → min (word * 2 ^ f % 10 ^ 18) (10 ^ 18 - word * 2 ^ f % 10 ^ 18) < near_half
far_near word digits f below few least most far =
    let power : ℕ = 2 ^ f in
    let x : ℕ = word * power in
    let y : ℕ = digits * power in
    let m : ℕ = word * 2 ^ 64 - digits * 10 ^ 18 in
    let wide : power ≤ 2 ^ 52 = power_within 2 f 52 (omega arith) (omega (arith, few)) in
    let less : m ≤ 3 * 10 ^ 18 = omega (arith, most) in
    let a : m * power ≤ 3 * 10 ^ 18 * power = mul-le-mul_right power less in
    let b : 3 * 10 ^ 18 * power ≤ 3 * 10 ^ 18 * 2 ^ 52 = mul-le-mul_left (3 * 10 ^ 18) wide in
    let e : word * 2 ^ 64 ≡ digits * 10 ^ 18 + m = omega (arith, least) in
    let scaled : word * 2 ^ 64 * power ≡ (digits * 10 ^ 18 + m) * power = ap (λ t. t * power) e in
    let split : x ≡ x / 10 ^ 18 * 10 ^ 18 + x % 10 ^ 18 = omega arith in
    let split' : y ≡ y / 2 ^ 64 * 2 ^ 64 + y % 2 ^ 64 = omega arith in
    near_by (x % 10 ^ 18) (x / 10 ^ 18) (y % 2 ^ 64) (y / 2 ^ 64) (m * power) (omega arith) (omega arith) (omega (arith, a, b)) (omega (arith, scaled, split, split')) far

-- ---- the word at a fraction length
quotient_is : (word digits f quotient : ℕ) → f < 64 → digits * 10 ^ 18 ≤ word * 2 ^ 64 → word * 2 ^ 64 < (digits + 3) * 10 ^ 18 → quotient ≡ digits / 2 / 2 ^ (63 - f) → (quotient * 10 ^ 18 ≤ word * 2 ^ f) × (word * 2 ^ f < (quotient + 2) * 10 ^ 18)
quotient_is word digits f quotient few least most is =
    let up : ℕ = 2 ^ f in
    let half : ℕ = 2 ^ (63 - f) in
    let some : 1 ≤ half = one-le-pow (63 - f) 2 (omega arith) in
    let all : f + (63 - f) ≡ 63 = omega (arith, few) in
    let product : 2 ^ 63 ≡ up * half = ap (λ (n : ℕ). 2 ^ n) (sym all) ∙ pow-add 2 f (63 - f) in
    let split : digits / 2 / half * half + digits / 2 % half ≡ digits / 2 = div-add-mod' (digits / 2) half in
    let rest : digits / 2 % half < half = mod-lt (digits / 2) some in
    let least' : quotient * half ≤ digits / 2 = subst (λ (n : ℕ). n * half ≤ digits / 2) (sym is) (omega (arith, split)) in
    let most' : digits / 2 < (quotient + 1) * half = subst (λ (n : ℕ). digits / 2 < (n + 1) * half) (sym is) (omega (arith, split, rest)) in
    let scaled : word * 2 ^ 64 ≡ word * up * (2 * half) = ap (λ (n : ℕ). word * (2 * n)) product ∙ omega arith in (
      below (quotient * 10 ^ 18) (word * up) (2 * half) (omega (arith, some)) (omega (arith, least, least', scaled)),
      above (word * up) ((quotient + 2) * 10 ^ 18) (2 * half) (omega (arith, most, most', scaled, some)),
    )
  where
    below : (a b c : ℕ) → 0 < c → a * c ≤ b * c → a ≤ b
    below a b c some less = ⊎_elim (λ (over : b < a). let m : (b + 1) * c ≤ a * c = mul-le-mul_right c (omega (arith, over)) in absurd (omega (arith, m, less, some))) (λ (is : a ≤ b). is) (cases_lt b a)

    above : (a b c : ℕ) → a * c < b * c → a < b
    above a b c less = ⊎_elim (λ (is : a < b). is) (λ (over : b ≤ a). let m : b * c ≤ a * c = mul-le-mul_right c over in absurd (omega (arith, m, less))) (cases_lt a b)

pub word_moved : (word digits f quotient w one : ℕ) → word < 10 ^ 18 → f < 64 → digits * 10 ^ 18 ≤ word * 2 ^ 64 → word * 2 ^ 64 < (digits + 3) * 10 ^ 18 → quotient ≡ digits / 2 / 2 ^ (63 - f) → w ≡ word → one ≡ 10 ^ 18
    → (w * 2 ^ f ≡ word * 2 ^ f) × (quotient * one ≡ quotient * 10 ^ 18) × (word * 2 ^ f < 2 ^ 128) × (quotient * 10 ^ 18 ≤ word * 2 ^ f) × (word * 2 ^ f < (quotient + 2) * 10 ^ 18)
word_moved word digits f quotient w one below few least most is same parts =
    let wide : 2 ^ f ≤ 2 ^ 63 = power_within 2 f 63 (omega arith) (omega (arith, few)) in
    let a : word * 2 ^ f ≤ word * 2 ^ 63 = mul-le-mul_left word wide in
    let q = quotient_is word digits f quotient few least most is in
    (ap (λ (n : ℕ). n * 2 ^ f) same, ap (λ (n : ℕ). quotient * n) parts, omega (arith, a, below), q.0, q.1)
