-- The nearest whole number to a fraction: by sums, uniqueness, scaling, and by quotient and remainder.
use Rattle.std.proofs.Common.{◌≡◌, ℕ, ◌+◌, ◌*◌, ◌/◌, ◌%◌, ◌<◌, ◌≤◌, ◌⊎◌, ◌↔◌, arith, mul-le-mul_right, mul-le-mul_left, sym, ap, ⊎_elim, div-add-mod', mod-lt}
use Rattle.std.proofs.Math.Nat.{le_of_mul-le-mul_left, eq_of_mul-eq-mul_left}
use Rattle.std.proofs.lemmas.Bool.{cases_lt}
use Rattle.fixed_bits.specs.Nearest.{IsNearest, distance, IsEven}

far_apart : (num den p q : ℕ) → 0 < den → IsNearest num den p → IsNearest num den q → p + 2 ≤ q → ⊥
far_apart num den p q pos a b h = omega (arith, mul-le-mul_right den h)

-- `q` is nearest to num / den, by sums instead of distances
pub record Band (num den q : ℕ) : Type 0 where
  pub lo : 2 * (q * den) ≤ 2 * num + den
  pub hi : 2 * num ≤ 2 * (q * den) + den
  pub up : 2 * num ≡ 2 * (q * den) + den → q % 2 ≡ 0
  pub down : 2 * num + den ≡ 2 * (q * den) → q % 2 ≡ 0

pub band : (num den q : ℕ) → IsNearest num den q → Band num den q
band num den q h = record { lo = omega arith; hi = omega arith; up = λ e. h.tie (omega arith); down = λ e. h.tie (omega arith) }

tie_ways : (num den x : ℕ) → 2 * distance num x ≡ den → (2 * num ≡ 2 * x + den) ⊎ (2 * num + den ≡ 2 * x)
tie_ways num den x e = grind arith

pub nearest_from_band : (num den q : ℕ) → Band num den q → IsNearest num den q
nearest_from_band num den q b = record { near = omega arith; tie = λ e. ⊎_elim b.up b.down (tie_ways num den (q * den) e) }

neighbours : (num den p q : ℕ) → Band num den p → Band num den q → q ≡ p + 1 → ⊥
neighbours num den p q a b e =
    let step : q * den ≡ (p + 1) * den = ap (λ x. x * den) e in
    let even_p : p % 2 ≡ 0 = a.up (omega arith) in
    let even_q : q % 2 ≡ 0 = b.down (omega arith) in
    omega arith

-- at most one `q` is nearest
pub nearest_unique : (num den p q : ℕ) → 0 < den → IsNearest num den p → IsNearest num den q → p ≡ q
nearest_unique num den p q pos a b =
    let a' = band num den p a in
    let b' = band num den q b in
    grind (arith, far_apart num den p q, far_apart num den q p, neighbours num den p q, neighbours num den q p, a', b')

-- ---- scaling
scaled_band : (k num den q : ℕ) → 0 < k → Band num den q → Band (k * num) (k * den) q
scaled_band k num den q pos b = record {
  lo = omega (arith, mul-le-mul_left k b.lo);
  hi = omega (arith, mul-le-mul_left k b.hi);
  up = λ e. b.up (eq_of_mul-eq-mul_left k pos _ _ (omega arith));
  down = λ e. b.down (eq_of_mul-eq-mul_left k pos _ _ (omega arith));
}

scaled_band_back : (k num den q : ℕ) → 0 < k → Band (k * num) (k * den) q → Band num den q
scaled_band_back k num den q pos b = record {
  lo = le_of_mul-le-mul_left {k = k} (omega arith) pos;
  hi = le_of_mul-le-mul_left {k = k} (omega arith) pos;
  up = λ e. b.up (omega (arith, ap (λ x. k * x) e));
  down = λ e. b.down (omega (arith, ap (λ x. k * x) e));
}

-- scaling both terms of a fraction keeps its nearest number
pub nearest_scaled : (k num den q : ℕ) → 0 < k → IsNearest (k * num) (k * den) q ↔ IsNearest num den q
nearest_scaled k num den q pos = (
  λ h. nearest_from_band _ _ _ (scaled_band_back k num den q pos (band _ _ _ h)),
  λ h. nearest_from_band _ _ _ (scaled_band k num den q pos (band _ _ _ h)),
)

-- equal fractions have the same nearest number
pub nearest_same : (n d n' d' q : ℕ) → 0 < d → 0 < d' → n * d' ≡ n' * d → IsNearest n d q → IsNearest n' d' q
nearest_same n d n' d' q some some' e h =
    let up : IsNearest (d' * n) (d' * d) q = (nearest_scaled d' n d q some').1 h in
    let num : d' * n ≡ d * n' = omega arith in
    let den : d' * d ≡ d * d' = omega arith in
    (nearest_scaled d n' d' q some).0 (rw (num, den) at up)

-- ---- the computation
parity : (q : ℕ) → (q % 2 ≡ 0) ⊎ ((q + 1) % 2 ≡ 0)
parity q = grind arith

-- the quotient is nearest if the remainder is at most half of the denominator
pub nearest_by_rest : (num den q r : ℕ) → num ≡ q * den + r → 2 * r ≤ den → (2 * r ≡ den → IsEven q) → IsNearest num den q
nearest_by_rest num den q r e small tie = nearest_from_band num den q (record {
  lo = omega arith;
  hi = omega arith;
  up = λ t. tie (omega arith);
  down = λ t. tie (omega arith);
})

pub nearest_by_rest_up : (num den q r : ℕ) → num ≡ q * den + r → r < den → den ≤ 2 * r → (2 * r ≡ den → IsEven (q + 1)) → IsNearest num den (q + 1)
nearest_by_rest_up num den q r e low big tie = nearest_from_band num den (q + 1) (record {
  lo = omega arith;
  hi = omega arith;
  up = λ t. tie (omega arith);
  down = λ t. tie (omega arith);
})

pub nearest_exists : (num den : ℕ) → 0 < den → (q : ℕ) × IsNearest num den q
nearest_exists num den pos =
    let q : ℕ = num / den in
    let r : ℕ = num % den in
    let split : num ≡ q * den + r = sym (div-add-mod' num den) in
    let low : r < den = mod-lt num pos in
    ⊎_elim (λ h. (q, nearest_by_rest num den q r split (omega arith) (λ e. absurd (omega arith))))
    (λ h. ⊎_elim
    (λ k. (q + 1, nearest_by_rest_up num den q r split low (omega arith) (λ e. absurd (omega arith))))
    (λ k. ⊎_elim
    (λ even. (q, nearest_by_rest num den q r split (omega arith) (λ e. even)))
    (λ odd. (q + 1, nearest_by_rest_up num den q r split low (omega arith) (λ e. omega arith)))
    (parity q))
    (cases_lt den (2 * r)))
    (cases_lt (2 * r) den)
