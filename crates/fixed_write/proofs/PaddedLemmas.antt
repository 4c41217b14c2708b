-- The digits after the point, padded with zeros: one scale decides which digits are needed.
use Rattle.std.proofs.Common.{◌≡◌, ℕ, zero, suc, ◌+◌, ◌-◌, ◌*◌, ◌/◌, ◌%◌, ◌^◌, ◌<◌, ◌≤◌, ◌⊎◌, ◌↔◌, ◌&&◌, leb, List, ◌++◌, Bool, true, false, not, IsTrue, sym, ap, ◌∙◌, inl, inr, ⊎_elim, arith, refl, pow_pos, pow-suc, add_assoc, mul-le-mul_right, mod-lt, mod-eq_of_lt, div-add-mod'}
use mir.Val.{bool_byte}
use Rattle.std.proofs.lemmas.Nat.{pow-add, div-mul-add}
use Rattle.std.proofs.lemmas.Bool.{cases_lt, cases_order, leb-true, and_parts}
use Rattle.std.proofs.Math.Nat.{one-le-pow, pow-le-pow_right, eq_of_mul-eq-mul_right}
use Rattle.fixed_bits.specs.Nearest.{IsNearest, IsEven}
use Rattle.fixed_bits.proofs.Public.{nearest_scaled}
use Rattle.fixed_write.specs.Shortest.{ReadsBack, IsShortest}
use Rattle.fixed_write.specs.Inner.Fraction.{IsReduced, IsPaddedFraction, IsShortestFraction, AppendsReduced, AppendsFraction}
use Rattle.fixed_write.specs.Inner.Passes.{Pass}
use Rattle.fixed_write.proofs.ShortestLemmas.{reads_back_without_tie, shortest_from_least, last_is_some}
use Rattle.fixed_write.proofs.DigitLemmas.{fraction_same}
use Rattle.fixed_write.proofs.PassLemmas.{pass_at, pass_more, pass_ends, no_carry, longer_reads_back, below_by_rest, above_by_rest, split_at, digits_fit, raised_digits_fit}
use Rattle.fixed_write.proofs.PrintingLemmas.{digits_are, left_is, unit_is, low_enough, high_enough, too_low, too_high, rest_below, near_coarse, tie_scaled, even_with, far}

ten_pos : (k : ℕ) → 0 < 10 ^ k
ten_pos k = one-le-pow k 10 (omega arith)

-- ---- the same decimal with more or fewer trailing zeros
pub moved : (a b n m : ℕ) → a ≤ b → n * 10 ^ b ≡ m * 10 ^ a → m ≡ n * 10 ^ (b - a)
moved a b n m l e =
    let all : (b - a) + a ≡ b = omega arith in
    let split : 10 ^ b ≡ 10 ^ (b - a) * 10 ^ a = ap (λ i. 10 ^ i) (sym all) ∙ pow-add 10 (b - a) a in
    eq_of_mul-eq-mul_right (10 ^ a) (ten_pos a) m (n * 10 ^ (b - a)) (omega (arith, e, ap (λ x. n * x) split))

pub ends_in_zero : (n d : ℕ) → 0 < d → n * 10 ^ d % 10 ≡ 0
ends_in_zero n zero p = absurd (omega arith)
ends_in_zero n (suc d) p = rw pow-suc (omega arith)

-- a number that does not end in zero is already reduced
pub reduced_once : (x q m k : ℕ) → 0 < q → (x % 10 ≡ 0 → ⊥) → IsReduced x q m k → (k ≡ q) × (m ≡ x)
reduced_once x q m k p last h = by_order (cases_order k q)
  where
    here : k ≡ q → m ≡ x
    here e =
        let same : x * 10 ^ q ≡ m * 10 ^ q = rw e at h.same in
        sym (eq_of_mul-eq-mul_right (10 ^ q) (ten_pos q) x m same)

    by_order : (k ≡ q) ⊎ (k < q) ⊎ (q < k) → (k ≡ q) × (m ≡ x)
    by_order (inl e) = (e, here e)
    by_order (inr (inl l)) = absurd (last (let e : x ≡ m * 10 ^ (q - k) = moved k q m x (omega arith) (sym h.same) in rw e (ends_in_zero m (q - k) (omega arith))))
    by_order (inr (inr l)) = absurd (⊎_elim (λ z. omega arith) (λ f. f (let e : m ≡ x * 10 ^ (k - q) = moved q k x m (omega arith) h.same in rw e (ends_in_zero x (k - q) (omega arith)))) h.ends)

pub reduced_few : (n q m k : ℕ) → IsReduced n q m k → k ≤ q
reduced_few n q m k h = ⊎_elim (λ (a : q < k). absurd (⊎_elim (λ z. omega arith) (λ f. f (let e : m ≡ n * 10 ^ (k - q) = moved q k n m (omega arith) h.same in rw e (ends_in_zero n (k - q) (omega arith)))) h.ends)) (λ a. a) (cases_lt q k)

same_decimal : (n p m k c g : ℕ) → n * 10 ^ k ≡ m * 10 ^ p → ReadsBack n p c g → ReadsBack m k c g
same_decimal n p m k c g e h =
    let up : IsNearest (10 ^ k * (n * 2 ^ g)) (10 ^ k * 10 ^ p) c = (nearest_scaled (10 ^ k) (n * 2 ^ g) (10 ^ p) c (ten_pos k)).1 h in
    let num : 10 ^ k * (n * 2 ^ g) ≡ 10 ^ p * (m * 2 ^ g) = omega (arith, ap (λ x. x * 2 ^ g) e) in
    let den : 10 ^ k * 10 ^ p ≡ 10 ^ p * 10 ^ k = omega arith in
    (nearest_scaled (10 ^ p) (m * 2 ^ g) (10 ^ k) c (ten_pos p)).0 (rw (num, den) at up)

-- ---- if a digit is at least an ulp, at most one number reads back, and it is the nearest
one_reads_back : (n m p c g : ℕ) → p ≤ g → 10 ^ p ≤ 2 ^ g → ReadsBack n p c g → ReadsBack m p c g → n ≡ m
one_reads_back n m p c g l wide h i =
    let near = (reads_back_without_tie n p c g l).0 h in
    let near' = (reads_back_without_tie m p c g l).0 i in
    ⊎_elim (λ e. e) (λ o. absurd (⊎_elim
    (λ (a : n < m). omega (arith, near, near', mul-le-mul_right (2 ^ g) a))
    (λ (a : m < n). omega (arith, near, near', mul-le-mul_right (2 ^ g) a)) o)) (cases_order n m)

nearest_of : (m k c g : ℕ) → k ≤ g → 10 ^ k ≤ 2 ^ g → ReadsBack m k c g → IsNearest (c * 10 ^ k) (2 ^ g) m
nearest_of m k c g l wide h =
    let near = (reads_back_without_tie m k c g l).0 h in
    record { near = omega (arith, near); tie = λ e. absurd (omega (arith, near)) }

whole_same : (w n m p k : ℕ) → n * 10 ^ k ≡ m * 10 ^ p → (w * 10 ^ p + n) * 10 ^ k ≡ (w * 10 ^ k + m) * 10 ^ p
whole_same w n m p k e = omega (arith, e)

tenth : (n m p k : ℕ) → (n * 10 + 0) * 10 ^ k ≡ m * 10 ^ suc p → n * 10 ^ k ≡ m * 10 ^ p
tenth n m p k e =
    let more : (n * 10 + 0) * 10 ^ k ≡ m * (10 ^ p * 10) = rw pow-suc at e in
    eq_of_mul-eq-mul_right 10 (omega arith) (n * 10 ^ k) (m * 10 ^ p) (omega arith)

last_of : (w m k : ℕ) → 0 < k → (w * 10 ^ k + m) % 10 ≡ 0 → m % 10 ≡ 0
last_of w m zero p e = absurd (omega arith)
last_of w m (suc k) p e = let e' : (w * (10 ^ k * 10) + m) % 10 ≡ 0 = rw pow-suc at e in omega arith

-- so that number is the shortest decimal without its trailing zeros
pub reduced_is_shortest : (c g w p n : ℕ) → p ≤ g → 10 ^ p ≤ 2 ^ g → ReadsBack (w * 10 ^ p + n) p c g → (m k : ℕ) → IsReduced (n * 10 + 0) (suc p) m k → IsShortest c g (w * 10 ^ k + m) k
reduced_is_shortest c g w p n l wide h m k r = shortest_from_least c g k (w * 10 ^ k + m) (w * 10 ^ k + m) (omega (arith, few)) reads none (nearest_of (w * 10 ^ k + m) k c g (omega (arith, few)) narrow reads)
  where
    same : n * 10 ^ k ≡ m * 10 ^ p
    same = tenth n m p k r.same

    few : k ≤ p
    few = reduced_few n p m k (record { same = same; ends = r.ends })

    narrow : 10 ^ k ≤ 2 ^ g
    narrow = let less : 10 ^ k ≤ 10 ^ p = pow-le-pow_right (omega arith) few in omega arith

    reads : ReadsBack (w * 10 ^ k + m) k c g
    reads = same_decimal (w * 10 ^ p + n) p (w * 10 ^ k + m) k c g (whole_same w n m p k same) h

    none : (i j : ℕ) → j < k → ReadsBack i j c g → ⊥
    none i j s t =
        let longer : ReadsBack (i * 10 ^ (k - j)) (j + (k - j)) c g = longer_reads_back i j (k - j) c g t in
        let all : j + (k - j) ≡ k = omega arith in
        let here : ReadsBack (i * 10 ^ (k - j)) k c g = rw all at longer in
        let one : w * 10 ^ k + m ≡ i * 10 ^ (k - j) = one_reads_back (w * 10 ^ k + m) (i * 10 ^ (k - j)) k c g (omega (arith, few)) narrow reads here in
        ⊎_elim (λ z. omega arith) (λ f. f (last_of w m k (omega arith) (rw one (ends_in_zero i (k - j) (omega arith))))) r.ends

-- ---- the digit after those of the scale, nearest to the value
pub record IsNearer (digit rest nearer : ℕ) : Type 0 where
  pub near : (above : ℕ) → (2 * rest ≡ 2 ^ 64 → IsEven above) → IsNearest ((above + digit) * 2 ^ 64 + rest) (2 ^ 64) (above + nearer)
  pub below : nearer ≤ digit + 1

-- c ulps of 2^-g cut to p digits after the point, which spell a; the rest is b, and `left` in units of 2^-64
pub record IsCut (c g p a left : ℕ) : Type 0 where
  pub b : ℕ
  pub digits : a ≡ c % 2 ^ g * 10 ^ p / 2 ^ g
  pub rest : b ≡ c % 2 ^ g * 10 ^ p % 2 ^ g
  pub left_is : left ≡ b * 2 ^ (64 - g)

pub cut_is : (c g p scale first number left : ℕ) → g ≤ 64 → scale ≡ 10 ^ p → first ≡ c % 2 ^ g * 2 ^ (64 - g) → number ≡ first * scale / 2 ^ 64 → left ≡ first * scale % 2 ^ 64 → IsCut c g p number left
cut_is c g p scale first number left l s f d e = record {
  b = c % 2 ^ g * 10 ^ p % 2 ^ g;
  digits = digits_are g (c % 2 ^ g) first (10 ^ p) number l f (rw s at d);
  rest = refl;
  left_is = left_is g (c % 2 ^ g) first (10 ^ p) left l f (rw s at e);
}

rest_small : (c g p a left : ℕ) → (h : IsCut c g p a left) → h.b < 2 ^ g
rest_small c g p a left h = rw h.rest (mod-lt (c % 2 ^ g * 10 ^ p) (pow_pos g))

-- the scale: p digits after the point are steps of at least an ulp, and p + 1 digits of at most an ulp
pub record IsScale (g p : ℕ) : Type 0 where
  pub within : p ≤ g
  pub few : p ≤ 19
  pub low : 10 ^ p ≤ 2 ^ g
  pub high : 2 ^ g ≤ 10 ^ (p + 1)

-- the digits so far read back
padded_below : (c g p a left half : ℕ) → g ≤ 64 → IsScale g p → IsCut c g p a left → 2 * half ≡ 10 ^ p * 2 ^ (64 - g) → left ≤ half → IsPaddedFraction c g a p 0
padded_below c g p a left half l s h e near = record {
  shortest = reduced_is_shortest c g (c / 2 ^ g) p a s.within s.low reads;
  fits = digits_fit c g p a h.b h.digits h.rest;
  few = s.few;
  small = omega arith;
}
  where
    close : 2 * h.b ≤ 10 ^ p
    close = low_enough (10 ^ p) (2 ^ (64 - g)) h.b left half (pow_pos (64 - g)) (omega (arith, e)) h.left_is near

    reads : ReadsBack (c / 2 ^ g * 10 ^ p + a) p c g
    reads = below_by_rest c g p (c / 2 ^ g * 10 ^ p + a) h.b s.within (split_at c g p a h.b h.digits h.rest) close

-- the next number reads back
padded_above : (c g p a left half : ℕ) → g ≤ 64 → IsScale g p → IsCut c g p a left → 2 * half ≡ 10 ^ p * 2 ^ (64 - g) → 2 ^ 64 - 1 - left < half → IsPaddedFraction c g (a + 1) p 0
padded_above c g p a left half l s h e near = record {
  shortest = reduced_is_shortest c g (c / 2 ^ g) p (a + 1) s.within s.low (rw (add_assoc (c / 2 ^ g * 10 ^ p) a 1) at reads);
  fits = raised_digits_fit c g p a h.b h.digits h.rest close;
  few = s.few;
  small = omega arith;
}
  where
    less : h.b < 2 ^ g
    less = rest_small c g p a left h

    word : left < 2 ^ 64
    word = rest_below h.b (2 ^ g) (2 ^ (64 - g)) left (pow_pos (64 - g)) less (unit_is g l) h.left_is

    close : 2 * (2 ^ g - h.b) ≤ 10 ^ p
    close = high_enough (10 ^ p) (2 ^ (64 - g)) (2 ^ g) h.b left half (pow_pos (64 - g)) (omega (arith, e)) h.left_is (unit_is g l) less word near

    reads : ReadsBack (c / 2 ^ g * 10 ^ p + a + 1) p c g
    reads = above_by_rest c g p (c / 2 ^ g * 10 ^ p + a) h.b s.within (split_at c g p a h.b h.digits h.rest) less close

halves : (x u : ℕ) → (2 * x ≤ u) ⊎ (u < 2 * x)
halves x u = ⊎_elim (λ o. inr o) (λ o. inl o) (cases_lt u (2 * x))

-- neither reads back, and one more digit is enough
padded_far : (c g p a left half digit rest nearer : ℕ) → g ≤ 64 → IsScale g p → IsCut c g p a left → 2 * half ≡ 10 ^ p * 2 ^ (64 - g) → (half < left) × (half ≤ 2 ^ 64 - 1 - left) → digit ≡ left * 10 / 2 ^ 64 → rest ≡ left * 10 % 2 ^ 64 → IsNearer digit rest nearer → IsPaddedFraction c g a p nearer
padded_far c g p a left half digit rest nearer l s h e (low, high) d r n = record {
  shortest = λ m k i. (let (same, is) = reduced_once (a * 10 + nearer) (suc p) m k (omega arith) last i in rw (same, is) pair);
  fits = digits_fit c g p a h.b h.digits h.rest;
  few = s.few;
  small = no_carry c g (c / 2 ^ g) a nearer p pair (omega (arith, n.below, digit_small));
}
  where
    less : h.b < 2 ^ g
    less = rest_small c g p a left h

    word : left < 2 ^ 64
    word = rest_below h.b (2 ^ g) (2 ^ (64 - g)) left (pow_pos (64 - g)) less (unit_is g l) h.left_is

    digit_is : digit ≡ h.b * 10 / 2 ^ g
    digit_is = digits_are g h.b left 10 digit l h.left_is d

    rest_is : rest ≡ h.b * 10 % 2 ^ g * 2 ^ (64 - g)
    rest_is = left_is g h.b left 10 rest l h.left_is r

    digit_small : digit < 10
    digit_small = omega (arith, d, word)

    begun : Pass c g (2 ^ g) (c / 2 ^ g) h.b a (10 ^ p) p
    begun = pass_at c g p a h.b s.within h.digits h.rest (too_low (10 ^ p) (2 ^ (64 - g)) h.b left half e h.left_is low) (too_high (10 ^ p) (2 ^ (64 - g)) (2 ^ g) h.b left half e h.left_is (unit_is g l) less high word)

    more : Pass c g (2 ^ g) (c / 2 ^ g) (h.b * 10 % 2 ^ g) (a * 10 + h.b * 10 / 2 ^ g) (10 ^ p * 10) (suc p)
    more = pass_more c g (2 ^ g) (c / 2 ^ g) h.b a (10 ^ p) p begun (too_low (10 ^ p) (2 ^ (64 - g)) h.b left half e h.left_is low) (too_high (10 ^ p) (2 ^ (64 - g)) (2 ^ g) h.b left half e h.left_is (unit_is g l) less high word)

    small : h.b * 10 % 2 ^ g < 2 ^ g
    small = mod-lt (h.b * 10) (pow_pos g)

    wide : 2 ^ g ≤ 10 ^ p * 10
    wide = let one : p + 1 ≡ suc p = omega arith in rw (one, pow-suc) at s.high

    ends : (2 * (h.b * 10 % 2 ^ g) ≤ 10 ^ p * 10) ⊎ (2 * (2 ^ g - h.b * 10 % 2 ^ g) ≤ 10 ^ p * 10)
    ends = ⊎_elim (λ (o : 2 * (h.b * 10 % 2 ^ g) ≤ 2 ^ g). inl (omega (arith, wide, o))) (λ (o : 2 ^ g < 2 * (h.b * 10 % 2 ^ g)). inr (omega (arith, wide, o))) (halves (h.b * 10 % 2 ^ g) (2 ^ g))

    near_all : (above : ℕ) → (2 * (h.b * 10 % 2 ^ g) ≡ 2 ^ g → IsEven above) → IsNearest ((above + (a * 10 + h.b * 10 / 2 ^ g)) * 2 ^ g + h.b * 10 % 2 ^ g) (2 ^ g) (above + (a * 10 + nearer))
    near_all above t =
        let fine = n.near (above + a * 10) (λ x. even_with above a (t (tie_scaled (2 ^ g) (2 ^ (64 - g)) (h.b * 10 % 2 ^ g) rest (unit_is g l) rest_is x (pow_pos (64 - g))))) in
        rw (digit_is, add_assoc above (a * 10) (h.b * 10 / 2 ^ g), add_assoc above (a * 10) nearer) at (near_coarse (2 ^ g) (2 ^ (64 - g)) (h.b * 10 % 2 ^ g) rest (above + a * 10 + digit) (above + a * 10 + nearer) (pow_pos (64 - g)) (unit_is g l) rest_is fine)

    pair : IsShortest c g (c / 2 ^ g * 10 ^ suc p + (a * 10 + nearer)) (suc p)
    pair = pass_ends c g (2 ^ g) (c / 2 ^ g) (h.b * 10 % 2 ^ g) (a * 10 + h.b * 10 / 2 ^ g) (10 ^ p * 10) (suc p) (a * 10 + nearer) more ends near_all

    last : (a * 10 + nearer) % 10 ≡ 0 → ⊥
    last z = last_is_some c g (c / 2 ^ g * 10 ^ suc p + (a * 10 + nearer)) p pair (rw pow-suc (omega (arith, z)))

yes : (b : Bool) (x y : ℕ) → IsTrue b ↔ (x < y) → b ≡ true → x < y
yes b x y w e = w.0 e

no' : (b : Bool) (x y : ℕ) → IsTrue b ↔ (x < y) → b ≡ false → y ≤ x
no' b x y w e = ⊎_elim (λ a. absurd (let clash : true ≡ false = sym (w.1 a) ∙ e in cc)) (λ a. a) (cases_lt x y)

-- all three cases at once
pub padded : (c g p a left half digit rest nearer : ℕ) (above short : Bool) → g ≤ 64 → IsScale g p → IsCut c g p a left → 2 * half ≡ 10 ^ p * 2 ^ (64 - g) → digit ≡ left * 10 / 2 ^ 64 → rest ≡ left * 10 % 2 ^ 64 → IsNearer digit rest nearer → IsTrue above ↔ (2 ^ 64 - 1 - left < half) → IsTrue short ↔ ((left ≤ half) ⊎ (2 ^ 64 - 1 - left < half)) → IsPaddedFraction c g (a + bool_byte above) p (nearer * bool_byte (not short))
padded c g p a left half digit rest nearer above short l s h e d r n wa ws = by_cases above short wa ws
  where
    kept : (x : ℕ) → IsPaddedFraction c g a p x → IsPaddedFraction c g (a + 0) p x
    kept x i = let same : a + 0 ≡ a = omega arith in rw same i

    none : (x : ℕ) → IsPaddedFraction c g x p 0 → IsPaddedFraction c g x p (nearer * 0)
    none x i = let same : nearer * 0 ≡ 0 = omega arith in rw same i

    by_cases : (above short : Bool) → IsTrue above ↔ (2 ^ 64 - 1 - left < half) → IsTrue short ↔ ((left ≤ half) ⊎ (2 ^ 64 - 1 - left < half)) → IsPaddedFraction c g (a + bool_byte above) p (nearer * bool_byte (not short))
    by_cases true true wa ws = none (a + 1) (padded_above c g p a left half l s h e (wa.0 refl))
    by_cases false true wa ws = none (a + 0) (kept 0 (padded_below c g p a left half l s h e (⊎_elim (λ o. o) (λ o. absurd (omega (arith, no' false (2 ^ 64 - 1 - left) half wa refl))) (ws.0 refl))))
    by_cases true false wa ws = absurd (omega (arith, wa.0 refl, (far false left half ws refl).1))
    by_cases false false wa ws = let same : nearer * 1 ≡ nearer = omega arith in rw same (kept nearer (padded_far c g p a left half digit rest nearer l s h e (far false left half ws refl) d r n))

-- ---- half an ulp
pub half_is : (s g : ℕ) → g ≤ 64 → (g ≡ 64 → ⊥) → s ≤ 2 ^ g → 2 * (s * 2 ^ (63 - g) % 2 ^ 64) ≡ s * 2 ^ (64 - g)
half_is s g l ne small =
    let under : g < 64 = ⊎_elim (λ a. a) (λ (a : 64 ≤ g). absurd (ne (omega arith))) (cases_lt g 64) in
    let next : 64 - g ≡ suc (63 - g) = omega arith in
    let all : g + (63 - g) ≡ 63 = omega arith in
    let top : 2 ^ g * 2 ^ (63 - g) ≡ 2 ^ 63 = sym (pow-add 2 g (63 - g)) ∙ ap (λ i. 2 ^ i) all in
    let most : s * 2 ^ (63 - g) ≤ 2 ^ g * 2 ^ (63 - g) = mul-le-mul_right (2 ^ (63 - g)) small in
    let same : s * 2 ^ (63 - g) % 2 ^ 64 ≡ s * 2 ^ (63 - g) = mod-eq_of_lt (omega arith) in
    rw (same, next, pow-suc) (omega arith)

-- ---- the scale of each fraction length
abbrev is_scale : ℕ → Bool
is_scale g = leb (10 ^ (g * 1233 / 4096)) (2 ^ g) && leb (2 ^ g) (10 ^ (g * 1233 / 4096 + 1))

abbrev are_scales : ℕ → Bool
are_scales zero = is_scale zero
are_scales (suc g) = is_scale (suc g) && are_scales g

scale_at : (most g : ℕ) → are_scales most ≡ true → g ≤ most → is_scale g ≡ true
scale_at zero g h l = let is : g ≡ 0 = omega arith in rw is h
scale_at (suc most) g h l = ⊎_elim (λ less. scale_at most g (and_parts (is_scale (suc most)) (are_scales most) h).1 (omega arith)) (λ same.
    let is : g ≡ suc most = omega arith in
    rw is (and_parts (is_scale (suc most)) (are_scales most) h).0) (cases_lt g (suc most))

pub scale_low : (g : ℕ) → g ≤ 64 → 10 ^ (g * 1233 / 4096) ≤ 2 ^ g
scale_low g l = leb-true (10 ^ (g * 1233 / 4096)) (2 ^ g) (and_parts (leb (10 ^ (g * 1233 / 4096)) (2 ^ g)) (leb (2 ^ g) (10 ^ (g * 1233 / 4096 + 1))) (scale_at 64 g refl l)).0

pub scale_high : (g : ℕ) → g ≤ 64 → 2 ^ g ≤ 10 ^ (g * 1233 / 4096 + 1)
scale_high g l = leb-true (2 ^ g) (10 ^ (g * 1233 / 4096 + 1)) (and_parts (leb (10 ^ (g * 1233 / 4096)) (2 ^ g)) (leb (2 ^ g) (10 ^ (g * 1233 / 4096 + 1))) (scale_at 64 g refl l)).1

-- ---- trailing zeros, one by one
-- if the fraction is not zero, not all its digits are zeros
padded_some : (c g n p d : ℕ) → IsPaddedFraction c g n p d → (c % 2 ^ g ≡ 0 → ⊥) → 0 < n * 10 + d
padded_some c g n p d h some = ⊎_elim (λ a. a) (λ (a : n * 10 + d ≤ 0).
    let none : n * 10 + d ≡ 0 = omega arith in
    let whole : IsShortest c g (c / 2 ^ g * 10 ^ 0 + 0) 0 = h.shortest 0 0 (record { same = rw none (omega arith); ends = inl refl }) in
    let once : c / 2 ^ g * 1 + 0 ≡ c / 2 ^ g = omega arith in
    let reads : IsNearest (c / 2 ^ g * 2 ^ g) 1 c = rw once at whole.reads_back in
    absurd (some (exact (c % 2 ^ g) (c / 2 ^ g * 2 ^ g) (div-add-mod' c (2 ^ g)) reads))) (cases_lt 0 (n * 10 + d))
  where
    exact : (r y : ℕ) → y + r ≡ c → IsNearest y 1 c → r ≡ 0
    exact r y e i = omega (arith, i.near, e)

pub padded_longer : (c g n p : ℕ) → IsPaddedFraction c g n p 0 → (c % 2 ^ g ≡ 0 → ⊥) → 0 < p
padded_longer c g n zero h some = absurd (omega (arith, padded_some c g n zero 0 h some, h.fits))
padded_longer c g n (suc p) h some = omega arith

shorter : (c g n p : ℕ) → IsPaddedFraction c g n (suc p) 0 → IsPaddedFraction c g (n / 10) p (n % 10)
shorter c g n p h = record {
  shortest = λ m k r. h.shortest m k (record { same = rw pow-suc (tens m (10 ^ suc p) (10 ^ k) (rw split at r.same)); ends = r.ends });
  fits = (let less : n < 10 ^ p * 10 = rw pow-suc at h.fits in omega arith);
  few = omega (arith, h.few);
  small = omega arith;
}
  where
    split : n / 10 * 10 + n % 10 ≡ n
    split = omega arith

    tens : (m s t : ℕ) → n * t ≡ m * s → (n * 10 + 0) * t ≡ m * (s * 10)
    tens m s t e = omega (arith, e)

pub padded_shorter : (c g n p : ℕ) → IsPaddedFraction c g n p 0 → 0 < p → IsPaddedFraction c g (n / 10) (p - 1) (n % 10)
padded_shorter c g n zero h l = absurd (omega arith)
padded_shorter c g n (suc p) h l = let back : suc p - 1 ≡ p = omega arith in rw back (shorter c g n p h)

pub padded_ends : (c g n p d : ℕ) → IsPaddedFraction c g n p d → (d ≡ 0 → ⊥) → IsShortestFraction c g n p d
padded_ends c g n p d h last = record {
  shortest = h.shortest (n * 10 + d) (suc p) (record { same = refl; ends = inr (λ e. last (omega (arith, e, h.small))) });
  fits = h.fits;
  few = h.few;
  small = h.small;
}

-- ---- the text
-- the same decimal with more places
pub reduced_wider : (n q z m k : ℕ) → IsReduced (n * 10 ^ z) (q + z) m k → IsReduced n q m k
reduced_wider n q z m k h = record {
  same = eq_of_mul-eq-mul_right (10 ^ z) (ten_pos z) (n * 10 ^ k) (m * 10 ^ q) (turned n (10 ^ z) (10 ^ k) (m * 10 ^ q) (rw pow-add at h.same));
  ends = h.ends;
}
  where
    turned : (n s t y : ℕ) → n * s * t ≡ m * (10 ^ q * s) → n * t * s ≡ m * 10 ^ q * s
    turned n s t y e = omega (arith, e)

pub appends_narrower : (n q z : ℕ) (before after : List ℕ) → AppendsReduced (n * 10 ^ z) (q + z) before after → AppendsReduced n q before after
appends_narrower n q z before after h = record {
  number = h.number;
  count = h.count;
  reduced = reduced_wider n q z h.number h.count h.reduced;
  fits = h.fits;
  text_is = h.text_is;
}

pub fraction_appended : (c g number places digit : ℕ) (before after : List ℕ) → IsPaddedFraction c g number places digit → AppendsReduced (number * 10 + digit) (places + 1) before after → AppendsFraction c g before after
fraction_appended c g number places digit before after h a =
    let one : places + 1 ≡ suc places = omega arith in
    record {
      number = c / 2 ^ g * 10 ^ a.count + a.number;
      places = a.count;
      shortest = h.shortest a.number a.count (rw one at a.reduced);
      whole = div-mul-add (c / 2 ^ g) (10 ^ a.count) a.number a.fits;
      text_is = a.text_is ∙ ap (λ (t : List ℕ). before ++ t) (sym (fraction_same 10 false a.count (c / 2 ^ g) a.number (omega arith)));
    }

places_are : (a b n : ℕ) (before after : List ℕ) → a ≡ b → AppendsReduced n a before after → AppendsReduced n b before after
places_are a b n before after e h = rw e at h

-- sixteen digits, for at most sixteen places
pub short_appended : (n p moved : ℕ) (before after : List ℕ) → p ≤ 16 → moved ≡ n * 10 ^ (16 - p) → AppendsReduced moved 16 before after → AppendsReduced n p before after
short_appended n p moved before after l e h =
    let all : 16 ≡ p + (16 - p) = omega arith in
    let more : AppendsReduced (n * 10 ^ (16 - p)) 16 before after = rw e at h in
    appends_narrower n p (16 - p) before after (places_are 16 (p + (16 - p)) (n * 10 ^ (16 - p)) before after all more)

-- twenty digits, for more than sixteen places
pub record IsTwenty (n d p s : ℕ) : Type 0 where
  pub scaled : n * s < 2 ^ 64
  pub nineteen : n * s + d * s / 10 < 10 ^ 19
  pub low : (n * s + d * s / 10) % 1000 * 10 + d * s % 10 < 10 ^ 4
  pub value : (n * s + d * s / 10) / 1000 * 10 ^ 4 + ((n * s + d * s / 10) % 1000 * 10 + d * s % 10) ≡ (n * 10 + d) * s

pub twenty_of : (n d p s : ℕ) → p ≤ 19 → n < 10 ^ p → d < 10 → s ≡ 10 ^ (19 - p) → IsTwenty n d p s
twenty_of n d p s l fits small e = record {
  scaled = omega (arith, room, some);
  nineteen = omega (arith, room, digit, some);
  low = omega arith;
  value = omega arith;
}
  where
    some : 0 < s
    some = rw e (ten_pos (19 - p))

    all : 10 ^ p * s ≡ 10 ^ 19
    all =
        let sum : p + (19 - p) ≡ 19 = omega arith in
        rw e (sym (pow-add 10 p (19 - p)) ∙ ap (λ i. 10 ^ i) sum)

    room : n * s + s ≤ 10 ^ 19
    room = let more : (n + 1) * s ≤ 10 ^ p * s = mul-le-mul_right s (omega arith) in omega (arith, all, more)

    digit : d * s + s ≤ 10 * s
    digit = let more : (d + 1) * s ≤ 10 * s = mul-le-mul_right s (omega arith) in omega (arith, more)

pub long_appended : (n d p s x : ℕ) (before after : List ℕ) → p ≤ 19 → s ≡ 10 ^ (19 - p) → x ≡ (n * 10 + d) * s → AppendsReduced x 20 before after → AppendsReduced (n * 10 + d) (p + 1) before after
long_appended n d p s x before after l es ex h =
    let all : 20 ≡ p + 1 + (19 - p) = omega arith in
    let more : AppendsReduced ((n * 10 + d) * 10 ^ (19 - p)) 20 before after = rw (ex, es) at h in
    appends_narrower (n * 10 + d) (p + 1) (19 - p) before after (places_are 20 (p + 1 + (19 - p)) ((n * 10 + d) * 10 ^ (19 - p)) before after all more)

pub short_word : (n d p : ℕ) → p < 16 → n < 10 ^ p → d < 10 → n * 10 + d < 10 ^ 16
short_word n d p few fits small =
    let less : p ≤ 15 = omega arith in
    let most : 10 ^ p ≤ 10 ^ 15 = pow-le-pow_right (omega arith) less in
    omega arith
