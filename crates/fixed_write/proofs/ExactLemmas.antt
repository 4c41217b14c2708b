-- The fewest places that write a value exactly in decimal.
use Rattle.std.proofs.Common.{pow-suc, ◌≡◌, ◌∙◌, ℕ, zero, suc, ◌+◌, ◌-◌, ◌*◌, ◌/◌, ◌%◌, false, ◌^◌, ◌<◌, ◌≤◌, ap, arith, refl, sym, subst, ◌⊎◌, inl, inr, ⊎_elim, List, ◌++◌, append_assoc, mul-le-mul_right}
use Rattle.std.proofs.lemmas.Nat.{mul-pow, pow-add, pow_pos, shr-shr}
use Rattle.std.proofs.lemmas.Bool.{cases_lt}
use Rattle.std.proofs.Math.Nat.{mul-div_cancel}
use Rattle.std.proofs.lemmas.Nat.Bits.{bit_at-suc, bit_at-trailing_zeros, bit_at-zero, bit_at_lowest}
use Rattle.std.specs.Int.{bit_at, trailing_zeros, w64}
use Rattle.fixed_bits.specs.Rounded.{IsNotAbove, IsRounded}
use Rattle.fixed_bits.specs.declared.mode.ReadMode.TheVariants.{TowardsZero}
use Rattle.fixed_bits.proofs.Public.{rounded_unique}
use Rattle.fixed_write.specs.Places.{IsExact}
use Rattle.fixed_write.specs.Texts.{fraction_part, whole_digits}
use Rattle.fixed_write.specs.Inner.Digits.{AppendsExact, AppendsRounded}
use Rattle.fixed_write.specs.Inner.Fraction.{AppendsReduced, IsReduced}
use Rattle.fixed_write.proofs.BlockLemmas.{point_text_parts}
use Rattle.fixed_write.proofs.PaddedLemmas.{ends_in_zero, moved}

-- a number whose lowest `t` bits are 0 is a multiple of 2^t
pub low_zeros : (t n : ℕ) → ((i : ℕ) → i < t → bit_at n i ≡ 0) → n ≡ n / 2 ^ t * 2 ^ t
low_zeros zero n none = omega arith
low_zeros (suc t) n none =
    let half : n / 2 ≡ n / 2 / 2 ^ t * 2 ^ t = low_zeros t (n / 2) (λ i low. sym (bit_at-suc n i) ∙ none (suc i) (omega arith)) in
    let first : n % 2 ≡ 0 = sym (bit_at_lowest n) ∙ none 0 (omega arith) in
    let next : 1 + t ≡ suc t = omega arith in
    let both : n / 2 / 2 ^ t ≡ n / 2 ^ suc t = shr-shr n 1 t ∙ ap (λ k. n / 2 ^ k) next in
    let p : n / 2 ≡ n / 2 ^ suc t * 2 ^ t = half ∙ ap (λ q. q * 2 ^ t) both in
    let q : n / 2 ^ suc t * 2 ^ suc t ≡ n / 2 ^ suc t * (2 ^ t * 2) = ap (λ k. n / 2 ^ suc t * k) (pow-suc 2 t) in
    omega (arith, first, p, q)

-- ten to a power
tens : (k : ℕ) → 10 ^ k ≡ 2 ^ k * 5 ^ k
tens k = mul-pow 2 5 k

odd_fives : (k : ℕ) → 5 ^ k % 2 ≡ 1
odd_fives zero = refl
odd_fives (suc k) = omega (arith, odd_fives k)

odd_by : (a b : ℕ) → a % 2 ≡ 1 → b % 2 ≡ 1 → a * b % 2 ≡ 1
odd_by a b x y =
    let p : a ≡ 2 * (a / 2) + 1 = omega arith in
    let q : a * b ≡ (2 * (a / 2) + 1) * b = ap (λ n. n * b) p in
    let r : (2 * (a / 2) + 1) * b ≡ 2 * (a / 2 * b) + b = omega arith in
    omega (arith, q, r, y)

-- places enough
pub enough : (c o g t : ℕ) → c ≡ o * 2 ^ t → t ≤ g → c * 10 ^ (g - t) ≡ o * 5 ^ (g - t) * 2 ^ g
enough c o g t is most =
    let k = g - t in
    let sum : t + k ≡ g = omega arith in
    let pows : 2 ^ t * 2 ^ k ≡ 2 ^ g = sym (pow-add 2 t k) ∙ ap (λ n. 2 ^ n) sum in
    let a : c * 10 ^ k ≡ o * 2 ^ t * (2 ^ k * 5 ^ k) = ap (λ n. n * 10 ^ k) is ∙ ap (λ n. o * 2 ^ t * n) (tens k) in
    let b : o * 2 ^ t * (2 ^ k * 5 ^ k) ≡ o * 5 ^ k * (2 ^ t * 2 ^ k) = omega arith in
    a ∙ b ∙ ap (λ n. o * 5 ^ k * n) pows

-- no fewer
pub no_fewer : (c o g t m j : ℕ) → c ≡ o * 2 ^ t → o % 2 ≡ 1 → c * 10 ^ j ≡ m * 2 ^ g → t + j < g → ⊥
no_fewer c o g t m j is odd same fewer =
    let d = g - t - j - 1 in
    let sum : t + (j + suc d) ≡ g = omega arith in
    let pows : 2 ^ g ≡ 2 ^ t * (2 ^ j * (2 ^ d * 2)) = ap (λ n. 2 ^ n) (sym sum) ∙ pow-add 2 t (j + suc d) ∙ ap (λ n. 2 ^ t * n) (pow-add 2 j (suc d) ∙ ap (λ n. 2 ^ j * n) (pow-suc 2 d)) in
    let unit : 0 < 2 ^ t * 2 ^ j = grind (arith, pow_pos t, pow_pos j) in
    let a : o * 2 ^ t * (2 ^ j * 5 ^ j) ≡ m * (2 ^ t * (2 ^ j * (2 ^ d * 2))) = sym (ap (λ n. n * 10 ^ j) is ∙ ap (λ n. o * 2 ^ t * n) (tens j)) ∙ same ∙ ap (λ n. m * n) pows in
    let b : (o * 5 ^ j) * (2 ^ t * 2 ^ j) ≡ (2 * (m * 2 ^ d)) * (2 ^ t * 2 ^ j) = omega (arith, a) in
    let cut : o * 5 ^ j ≡ 2 * (m * 2 ^ d) = sym (mul-div_cancel (o * 5 ^ j) unit) ∙ (ap (λ n. n / (2 ^ t * 2 ^ j)) b ∙ mul-div_cancel (2 * (m * 2 ^ d)) unit) in
    absurd (omega (arith, odd_by o (5 ^ j) odd (odd_fives j), cut))

-- a quotient without a remainder
whole : (a n d : ℕ) → 0 < d → a ≡ n * d → a ≡ a / d * d
whole a n d some is = is ∙ ap (λ q. q * d) (sym (mul-div_cancel n some) ∙ ap (λ m. m / d) (sym is))

not_fewer : (c o g t m j : ℕ) → c ≡ o * 2 ^ t → o % 2 ≡ 1 → c * 10 ^ j ≡ m * 2 ^ g → g - t ≤ j
not_fewer c o g t m j is odd same = by (cases_lt (t + j) g)
  where
    by : (t + j < g) ⊎ (g ≤ t + j) → g - t ≤ j
    by (inl fewer) = absurd (no_fewer c o g t m j is odd same fewer)
    by (inr enough) = omega (arith, enough)

one_times : (n : ℕ) → n * 1 ≡ n
one_times n = omega arith

regroup : (a b c : ℕ) → a * (b * c) ≡ a * b * c
regroup a b c = omega arith

-- ---- the fewest places
pub fewest : (c g t : ℕ) → ((i : ℕ) → i < t → bit_at c i ≡ 0) → (t < g → bit_at c t ≡ 1) → IsExact 10 c g (g - t) (c * 10 ^ (g - t) / 2 ^ g)
fewest c g t none one = by (cases_lt t g)
  where
    is : c ≡ c / 2 ^ t * 2 ^ t
    is = low_zeros t c none

    by : (t < g) ⊎ (g ≤ t) → IsExact 10 c g (g - t) (c * 10 ^ (g - t) / 2 ^ g)
    by (inl below) = record {
      same = whole (c * 10 ^ (g - t)) (c / 2 ^ t * 5 ^ (g - t)) (2 ^ g) (pow_pos g) (enough c (c / 2 ^ t) g t is (omega (arith, below)));
      least = λ m j same. not_fewer c (c / 2 ^ t) g t m j is (one (omega (arith, below))) same;
    }
    by (inr above) =
        let sum : (t - g) + g ≡ t = omega (arith, above) in
        let pows : 2 ^ t ≡ 2 ^ (t - g) * 2 ^ g = ap (λ k. 2 ^ k) (sym sum) ∙ pow-add 2 (t - g) g in
        let none_left : g - t ≡ 0 = omega (arith, above) in
        let ten : 10 ^ (g - t) ≡ 1 = ap (λ k. 10 ^ k) none_left in
        let a : c * 10 ^ (g - t) ≡ c = ap (λ k. c * k) ten ∙ one_times c in
        let b : c ≡ c / 2 ^ t * 2 ^ (t - g) * 2 ^ g = is ∙ (ap (λ k. c / 2 ^ t * k) pows ∙ regroup (c / 2 ^ t) (2 ^ (t - g)) (2 ^ g)) in
        record {
          same = whole (c * 10 ^ (g - t)) (c / 2 ^ t * 2 ^ (t - g)) (2 ^ g) (pow_pos g) (a ∙ b);
          least = λ m j same. omega (arith, none_left);
        }

-- the fewest places of a number of 64 bits
pub fewest_of : (c g k : ℕ) → c < 2 ^ 64 → g ≤ 64 → k ≡ g - trailing_zeros w64 c → IsExact 10 c g k (c * 10 ^ k / 2 ^ g)
unfolding lib.Count.count_trailing_zeros
fewest_of zero g k wide most is = subst (λ j. IsExact 10 zero g j (zero * 10 ^ j / 2 ^ g)) (sym is) (fewest zero g 64 (λ i low. bit_at-zero i) (λ below. absurd (omega (arith, most, below))))
fewest_of (suc n) g k wide most is =
    let bits = bit_at-trailing_zeros w64 (suc n) (omega arith) wide in
    subst (λ j. IsExact 10 (suc n) g j (suc n * 10 ^ j / 2 ^ g)) (sym is) (fewest (suc n) g (trailing_zeros w64 (suc n)) bits.2 (λ below. bits.1))

-- ---- a value of a whole number and a rest
-- a whole number before it needs no more places
with_whole : (w r g k n : ℕ) → IsExact 10 r g k n → IsExact 10 (w * 2 ^ g + r) g k (w * 10 ^ k + n)
with_whole w r g k n h = record {
  same = both w r (2 ^ g) (10 ^ k) n h.same;
  least = λ i j e. h.least (i - w * 10 ^ j) j (rest w r (2 ^ g) (10 ^ j) i e);
}
  where
    both : (w r u p n : ℕ) → r * p ≡ n * u → (w * u + r) * p ≡ (w * p + n) * u
    both w r u p n e = omega (arith, e)

    rest : (w r u p i : ℕ) → (w * u + r) * p ≡ i * u → r * p ≡ (i - w * p) * u
    rest w r u p i e = ⊎_elim
        (λ (a : i < w * p). let far : (i + 1) * u ≤ w * p * u = mul-le-mul_right u (omega arith) in let gone : i - w * p ≡ 0 = omega arith in rw gone (omega (arith, e, far)))
        (λ (a : w * p ≤ i). let whole : i ≡ w * p + (i - w * p) = omega arith in let product : i * u ≡ (w * p + (i - w * p)) * u = ap (λ y. y * u) whole in omega (arith, e, product))
        (cases_lt i (w * p))

-- rounded down to these places, the value is exact
cut_exact : (c d k p n : ℕ) → 0 < d → c * p ≡ n * d → IsNotAbove (c * p) d n
cut_exact c d k p n some e = record { at_most = omega (arith, e); next = omega (arith, e) }

pub cut_to_places : (w r k : ℕ) (before after : List ℕ) → r < 2 ^ 64 → k ≡ 64 - trailing_zeros w64 r → AppendsRounded TowardsZero 10 false (w * 2 ^ 64 + r) 64 k before after → AppendsExact 10 false (w * 2 ^ 64 + r) 64 before after
cut_to_places w r k before after small is h =
    let n : ℕ = w * 10 ^ k + r * 10 ^ k / 2 ^ 64 in
    let exact : IsExact 10 (w * 2 ^ 64 + r) 64 k n = with_whole w r 64 k (r * 10 ^ k / 2 ^ 64) (fewest_of r 64 k small (omega arith) is) in
    let near : IsRounded TowardsZero false ((w * 2 ^ 64 + r) * 10 ^ k) (2 ^ 64) n = cut_exact (w * 2 ^ 64 + r) (2 ^ 64) k (10 ^ k) n (pow_pos 64) exact.same in
    let one : h.number ≡ n = rounded_unique TowardsZero false ((w * 2 ^ 64 + r) * 10 ^ k) (2 ^ 64) h.number n (pow_pos 64) h.rounded near in
    record { number = n; places = k; exact = exact; text_is = rw one at h.text_is }

-- sixteen digits without trailing zeros are as few as there can be
reduced_exact : (s m k : ℕ) → IsReduced (s * 5 ^ 16) 16 m k → IsExact 10 (s * 2 ^ 48) 64 k m
reduced_exact s m k h = record {
  same = omega (arith, h.same);
  least = λ i j e. ⊎_elim (λ (l : j < k). absurd (fewer i j l e)) (λ l. l) (cases_lt j k);
}
  where
    crossed : (i a b : ℕ) → s * 2 ^ 48 * a ≡ i * 2 ^ 64 → s * 5 ^ 16 * b ≡ m * 10 ^ 16 → i * b ≡ m * a
    crossed i a b e f =
        let p : s * a ≡ i * 2 ^ 16 = omega (arith, e) in
        let q : s * b ≡ m * 2 ^ 16 = omega (arith, f) in
        omega (arith, ap (λ t. t * b) p, ap (λ t. t * a) q)

    fewer : (i j : ℕ) → j < k → s * 2 ^ 48 * 10 ^ j ≡ i * 2 ^ 64 → ⊥
    fewer i j l e =
        let is : m ≡ i * 10 ^ (k - j) = moved j k i m (omega (arith, l)) (crossed i (10 ^ j) (10 ^ k) e h.same) in
        ⊎_elim (λ z. omega (arith, l, z)) (λ f. f (rw is (ends_in_zero i (k - j) (omega (arith, l))))) h.ends

pub exact_at_once : (w r n : ℕ) (before text after : List ℕ) → r % 2 ^ 48 ≡ 0 → n ≡ r / 2 ^ 48 * 5 ^ 16 → text ≡ before ++ whole_digits 10 false w → AppendsReduced n 16 text after → AppendsExact 10 false (w * 2 ^ 64 + r) 64 before after
exact_at_once w r n before text after whole_rest is t h =
    let s : ℕ = r / 2 ^ 48 in
    let rest : r ≡ r / 2 ^ 48 * 2 ^ 48 = omega (arith, whole_rest) in
    let reduced : IsReduced (r / 2 ^ 48 * 5 ^ 16) 16 h.number h.count = rw is at h.reduced in
    let few : IsExact 10 r 64 h.count h.number = rw (← rest) at (reduced_exact (r / 2 ^ 48) h.number h.count reduced) in
    record {
      number = w * 10 ^ h.count + h.number;
      places = h.count;
      exact = with_whole w r 64 h.count h.number few;
      text_is = h.text_is ∙ rw (t, point_text_parts 10 false h.count w h.number (omega arith) h.fits) (append_assoc before (whole_digits 10 false w) (fraction_part 10 false h.count h.number));
    }
