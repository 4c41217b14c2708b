-- The size of an error, from how far the numeral is above a whole number of ulps.
use Rattle.std.proofs.Common.{◌≡◌, ℕ, ◌+◌, ◌-◌, ◌*◌, ◌<◌, ◌≤◌, ◌⊎◌, ap, subst, arith, ⊎_elim, inl, inr, mul-le-mul_right}
use Rattle.std.specs.Prelude.{min, max}
use Rattle.std.proofs.lemmas.Bool.{cases_lt}
use Rattle.fixed_bits.specs.Nearest.{distance}
use Rattle.fixed_error.proofs.GapLemmas.{cancel_le, cancel_lt}

-- ---- a number and a nearby whole number
apart : (a x : ℕ) → (a ≡ x + distance a x) ⊎ (a + distance a x ≡ x)
apart a x = ⊎_elim (λ (less : a < x). inr (omega (arith, less))) (λ (more : x ≤ a). inl (omega (arith, more))) (cases_lt a x)

above_low : (a b w q d : ℕ) → 0 < b → w * b ≤ a → 2 * d ≤ b → (a ≡ q * b + d) ⊎ (a + d ≡ q * b) → w * b + d ≤ a
above_low a b w q d some low near (inl e) =
    ⊎_elim
    (λ (less : q < w). let m : (q + 1) * b ≤ w * b = mul-le-mul_right b (omega (arith, less)) in absurd (omega (arith, m, e, low, near, some)))
    (λ (more : w ≤ q). let m : w * b ≤ q * b = mul-le-mul_right b more in omega (arith, m, e))
    (cases_lt q w)
above_low a b w q d some low near (inr e) =
    ⊎_elim
    (λ (less : q ≤ w). let m : q * b ≤ w * b = mul-le-mul_right b less in omega (arith, m, e, low))
    (λ (more : w < q). let m : (w + 1) * b ≤ q * b = mul-le-mul_right b (omega (arith, more)) in omega (arith, m, e, near))
    (le_or w q)
  where
    le_or : (w q : ℕ) → (q ≤ w) ⊎ (w < q)
    le_or w q = ⊎_elim (λ (less : w < q). inr less) (λ (more : q ≤ w). inl more) (cases_lt w q)

below_high : (a b t q d : ℕ) → 0 < b → a ≤ t * b → 2 * d ≤ b → (a ≡ q * b + d) ⊎ (a + d ≡ q * b) → a + d ≤ t * b
below_high a b t q d some high near (inl e) =
    ⊎_elim
    (λ (less : q < t). let m : (q + 1) * b ≤ t * b = mul-le-mul_right b (omega (arith, less)) in omega (arith, m, e, near))
    (λ (more : t ≤ q). let m : t * b ≤ q * b = mul-le-mul_right b more in omega (arith, m, e, high))
    (cases_lt q t)
below_high a b t q d some high near (inr e) =
    ⊎_elim
    (λ (less : t < q). let m : (t + 1) * b ≤ q * b = mul-le-mul_right b (omega (arith, less)) in absurd (omega (arith, m, e, high, near, some)))
    (λ (more : q ≤ t). let m : q * b ≤ t * b = mul-le-mul_right b more in omega (arith, m, e))
    (cases_lt t q)

-- ---- bounds of an error, in parts
most_above : (a b one w r s q d : ℕ) → 0 < b → 0 < one → (w * one + r) * b ≤ a * one → a * one ≤ (w * one + r + s) * b → 2 * d ≤ b → (a ≡ q * b + d) ⊎ (a + d ≡ q * b) → d * one ≤ (r + s) * b
most_above a b one w r s q d some some' low high near far =
    let under : w * b ≤ a = cancel_le (w * b) a one some' (omega (arith, low)) in
    let m : (w * b + d) * one ≤ a * one = mul-le-mul_right one (above_low a b w q d some under near far) in
    omega (arith, m, high)

most_below : (a b one w r e s q d : ℕ) → 0 < b → 0 < one → r + e ≡ one → (w * one + r) * b ≤ a * one → a * one ≤ (w * one + r + s) * b → 2 * d ≤ b → (a ≡ q * b + d) ⊎ (a + d ≡ q * b) → d * one ≤ (e + s) * b
most_below a b one w r e s q d some some' whole low high near far =
    let x : (r + e) * b ≡ one * b = ap (λ t. t * b) whole in
    ⊎_elim
    (λ (over : (w + 1) * b < a).
    let m : ((w + 1) * b + d) * one ≤ a * one = mul-le-mul_right one (above_low a b (w + 1) q d some (omega (arith, over)) near far) in
    omega (arith, m, high, x))
    (λ (within : a ≤ (w + 1) * b).
    let m : (a + d) * one ≤ (w + 1) * b * one = mul-le-mul_right one (below_high a b (w + 1) q d some within near far) in
    omega (arith, m, low, x))
    (cases_lt ((w + 1) * b) a)

least_by : (a b one w r e s q d : ℕ) → r + e ≡ one → (w * one + r) * b ≤ a * one → a * one ≤ (w * one + r + s) * b → (a ≡ q * b + d) ⊎ (a + d ≡ q * b) → (r * b ≤ d * one) ⊎ (e * b ≤ d * one + s * b)
least_by a b one w r e s q d whole low high far =
    let x : (r + e) * b ≡ one * b = ap (λ t. t * b) whole in
    ⊎_elim
    (λ (over : w < q).
    let m : (w + 1) * b ≤ q * b = mul-le-mul_right b (omega (arith, over)) in
    let n : (w + 1) * b * one ≤ (a + d) * one = mul-le-mul_right one (reach a b w q d m far) in
    inr (omega (arith, n, high, x)))
    (λ (within : q ≤ w).
    let m : q * b ≤ w * b = mul-le-mul_right b within in
    let n : a * one ≤ (w * b + d) * one = mul-le-mul_right one (start a b w q d m far) in
    inl (omega (arith, n, low)))
    (cases_lt w q)
  where
    reach : (a b w q d : ℕ) → (w + 1) * b ≤ q * b → (a ≡ q * b + d) ⊎ (a + d ≡ q * b) → (w + 1) * b ≤ a + d
    reach a b w q d m (inl e) = omega (arith, m, e)
    reach a b w q d m (inr e) = omega (arith, m, e)

    start : (a b w q d : ℕ) → q * b ≤ w * b → (a ≡ q * b + d) ⊎ (a + d ≡ q * b) → a ≤ w * b + d
    start a b w q d m (inl e) = omega (arith, m, e)
    start a b w q d m (inr e) = omega (arith, m, e)

min_either : (P : ℕ → Type 0) (r e : ℕ) → P r → P e → P (min r e)
min_either P r e x y = ⊎_elim (λ (less : r < e). let same : r ≡ min r e = omega (arith, less) in subst P same x) (λ (more : e ≤ r). let same : e ≡ min r e = omega (arith, more) in subst P same y) (cases_lt r e)

pub most_error : (a b one w r s q : ℕ) → 0 < b → r < one → (w * one + r) * b ≤ a * one → a * one ≤ (w * one + r + s) * b → 2 * distance a (q * b) ≤ b → distance a (q * b) * one ≤ (min r (one - r) + s) * b
most_error a b one w r s q some less low high near =
    let d : ℕ = distance a (q * b) in
    let far = apart a (q * b) in
    let whole : r + (one - r) ≡ one = omega (arith, less) in
    min_either (λ t. d * one ≤ (t + s) * b) r (one - r) (most_above a b one w r s q d some (omega (arith, less)) low high near far) (most_below a b one w r (one - r) s q d some (omega (arith, less)) whole low high near far)

pub least_error : (a b one w r s q : ℕ) → r < one → (w * one + r) * b ≤ a * one → a * one ≤ (w * one + r + s) * b → (min r (one - r) - s) * b ≤ distance a (q * b) * one
least_error a b one w r s q less low high =
    let d : ℕ = distance a (q * b) in
    let whole : r + (one - r) ≡ one = omega (arith, less) in
    let low_r : (min r (one - r) - s) * b ≤ r * b = mul-le-mul_right b (omega arith) in
    let low_e : (min r (one - r) - s) * b ≤ (one - r - s) * b = mul-le-mul_right b (omega arith) in
    by d (omega (arith, low_r)) low_e (least_by a b one w r (one - r) s q d whole low high (apart a (q * b)))
  where
    by : (d : ℕ) → (min r (one - r) - s) * b ≤ r * b → (min r (one - r) - s) * b ≤ (one - r - s) * b → (r * b ≤ d * one) ⊎ ((one - r) * b ≤ d * one + s * b) → (min r (one - r) - s) * b ≤ d * one
    by d x y (inl h) = omega (arith, x, h)
    by d x y (inr h) = ⊎_elim
        (λ (few : one - r < s). let none : one - r - s ≡ 0 = omega (arith, few) in let m : (one - r - s) * b ≡ 0 * b = ap (λ t. t * b) none in omega (arith, y, m))
        (λ (more : s ≤ one - r). let e : one - r ≡ (one - r - s) + s = omega (arith, more) in let m : (one - r) * b ≡ ((one - r - s) + s) * b = ap (λ t. t * b) e in omega (arith, y, m, h))
        (cases_lt (one - r) s)

-- ---- two errors, of sizes d and dd over the denominators b and bb
pub no_greater_by : (d b dd bb one t most least : ℕ) → 0 < one → d * one ≤ most * b → most ≤ least → least * (t * bb) ≤ dd * (t * one) → d * (t * bb) ≤ dd * (t * b)
no_greater_by d b dd bb one t most least some high order low =
    let x : d * one * (t * bb) ≤ most * b * (t * bb) = mul-le-mul_right (t * bb) high in
    let y : most * (b * (t * bb)) ≤ least * (b * (t * bb)) = mul-le-mul_right (b * (t * bb)) order in
    let z : least * (t * bb) * b ≤ dd * (t * one) * b = mul-le-mul_right b low in
    cancel_le (d * (t * bb)) (dd * (t * b)) one some (omega (arith, x, y, z))

pub greater_by_near : (d b dd bb one t least most : ℕ) → 0 < b → 0 < bb → 0 < t → least * b ≤ d * one → most < least → dd * one ≤ most * bb → dd * (t * b) < d * (t * bb)
greater_by_near d b dd bb one t least most some some' unit low order high =
    let x : dd * one * (t * b) ≤ most * bb * (t * b) = mul-le-mul_right (t * b) high in
    let y : (most + 1) * (b * (t * bb)) ≤ least * (b * (t * bb)) = mul-le-mul_right (b * (t * bb)) (omega (arith, order)) in
    let z : least * b * (t * bb) ≤ d * one * (t * bb) = mul-le-mul_right (t * bb) low in
    let p : 1 * bb ≤ t * bb = mul-le-mul_right bb (omega (arith, unit)) in
    let q : 1 * (t * bb) ≤ b * (t * bb) = mul-le-mul_right (t * bb) (omega (arith, some)) in
    cancel_lt (dd * (t * b)) (d * (t * bb)) one (omega (arith, x, y, z, p, q, some'))

pub least_moved : (num den num' den' unit least : ℕ) → 0 < den → least * den ≤ num * unit → num * den' ≤ num' * den → least * den' ≤ num' * unit
least_moved num den num' den' unit least some low order =
    let x : least * den * den' ≤ num * unit * den' = mul-le-mul_right den' low in
    let y : num * den' * unit ≤ num' * den * unit = mul-le-mul_right unit order in
    cancel_le (least * den') (num' * unit) den some (omega (arith, x, y))

pub greatest_of : (P : ℕ → Type 0) (a b : ℕ) → P a → P b → P (max a b)
greatest_of P a b x y = ⊎_elim (λ (less : a < b). let same : b ≡ max a b = omega (arith, less) in subst P same y) (λ (more : b ≤ a). let same : a ≡ max a b = omega (arith, more) in subst P same x) (cases_lt a b)
