-- The number of digits that survive.
use Rattle.std.proofs.Common.{◌≡◌, ◌⊎◌, inl, inr, ⊎_elim, ℕ, ◌+◌, ◌-◌, ◌*◌, ◌/◌, ◌^◌, ◌<◌, ◌≤◌, Bool, true, false, ap, sym, ◌∙◌, arith, pos, ◌≤ℤ◌, mul-le-mul_right, pow_pos}
use Rattle.std.proofs.lemmas.Nat.{pow-add}
use Rattle.std.proofs.Math.Nat.{one-le-pow}
use Rattle.std.proofs.lemmas.Bool.{cases_lt, cases_order}
use Rattle.std.proofs.lemmas.Int.{ints}
use Rattle.fixed_bits.specs.Nearest.{distance}
use Rattle.fixed_bits.specs.Ranges.{greatest}
use Rattle.fixed_show.specs.FormatBlock.{AreWholeDigits, PlacesSurvive}

-- two decimals x / d and y / d within half of 1 / u of c / u are equal if d is at most u
not_less : (x y c u d : ℕ) → 0 < d → d ≤ u → 2 * distance (x * u) (c * d) ≤ d → 2 * distance (y * u) (c * d) ≤ d → x < y → ⊥
not_less x y c u d some h p q l =
    let s : (x + 1) * u ≤ y * u = mul-le-mul_right u (omega arith) in
    let e : d ≡ u = omega (arith, s) in
    let half : 2 * (c * d) ≡ 2 * (x * u) + u = omega (arith, s) in
    let same : 2 * (c * u) ≡ 2 * (x * u) + u = ap (λ t. 2 * (c * t)) (sym e) ∙ half in
    let many : 0 < u = omega arith in
    ⊎_elim
    (λ k. let m : (x + 1) * u ≤ c * u = mul-le-mul_right u (omega (arith, k)) in omega (arith, m, same, many))
    (λ k. let m : c * u ≤ x * u = mul-le-mul_right u k in omega (arith, m, same, many))
    (cases_lt x c)

-- the same decimal with more places
scaled : (m c u d t e : ℕ) → e ≡ t * d → 2 * distance (m * u) (c * d) ≤ d → 2 * distance (m * t * u) (c * e) ≤ e
scaled m c u d t e eq h =
    let a : 2 * (m * u) * t ≤ (2 * (c * d) + d) * t = mul-le-mul_right t (omega (arith, h)) in
    let b : 2 * (c * d) * t ≤ (2 * (m * u) + d) * t = mul-le-mul_right t (omega (arith, h)) in
    rw eq (omega (arith, a, b))

same_decimal : (x y c u d : ℕ) → 0 < d → d ≤ u → 2 * distance (x * u) (c * d) ≤ d → 2 * distance (y * u) (c * d) ≤ d → x ≡ y
same_decimal x y c u d some h p q = decided (cases_order x y)
  where
    decided : (x ≡ y) ⊎ ((x < y) ⊎ (y < x)) → x ≡ y
    decided (inl e) = e
    decided (inr (inl l)) = absurd (not_less x y c u d some h p q l)
    decided (inr (inr l)) = absurd (not_less y x c u d some h q p l)

pub survive : PlacesSurvive
survive f k h n c m j r s =
    let within : j ≤ k = s.least n k r in
    let split : k ≡ (k - j) + j = omega (arith, within) in
    let power : 10 ^ k ≡ 10 ^ (k - j) * 10 ^ j = ap (λ i. 10 ^ i) split ∙ pow-add 10 (k - j) j in
    let some : 0 < 10 ^ k = grind (arith, one-le-pow) in
    let more : 2 * distance (m * 10 ^ (k - j) * 2 ^ f) (c * 10 ^ k) ≤ 10 ^ k = scaled m c (2 ^ f) (10 ^ j) (10 ^ (k - j)) (10 ^ k) power s.reads_back.near in
    let e : n ≡ m * 10 ^ (k - j) = same_decimal n (m * 10 ^ (k - j)) c (2 ^ f) (10 ^ k) some h.apart r.near more in
    ap (λ t. m * t) power ∙ omega arith ∙ ap (λ t. t * 10 ^ j) (sym e)

-- the number of whole digits
pub whole_digits_are : (top q f w : ℕ) → q ≡ top / 2 ^ f → 10 ^ w ≤ q + 1 → q + 1 < 10 ^ (w + 1) → AreWholeDigits (pos top) f w
whole_digits_are top q f w e low high =
    let some : 0 < 2 ^ f = pow_pos f in
    let a : (10 ^ w - 1) * 2 ^ f ≤ q * 2 ^ f = mul-le-mul_right (2 ^ f) (omega (arith, low)) in
    let b : (q + 1) * 2 ^ f ≤ (10 ^ (w + 1) - 1) * 2 ^ f = mul-le-mul_right (2 ^ f) (omega (arith, high)) in
    let same : q * 2 ^ f ≡ top / 2 ^ f * 2 ^ f = ap (λ t. t * 2 ^ f) e in
    let lower : q * 2 ^ f ≤ top = omega (arith, same, some) in
    let upper : top < (q + 1) * 2 ^ f = omega (arith, same, some) in
    record {
      within = omega (arith, ints, a, lower);
      greatest = omega (arith, ints, b, upper);
    }

pub greatest_some : (s : Bool) (n : ℕ) → pos 0 ≤ℤ greatest s n
greatest_some true n = omega (arith, ints, pow_pos (n - 1))
greatest_some false n = omega (arith, ints, pow_pos n)
