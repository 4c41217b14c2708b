-- Rounding keeps the order of numbers, so the ends of a range decide for every number between them.
use Rattle.std.proofs.Common.{◌≡◌, ℕ, ◌+◌, ◌*◌, ◌^◌, ◌<◌, ◌≤◌, Bool, true, false, List, sym, ap, subst, arith, ⊎_elim, mul-le-mul_right, ℤ, ◌≤ℤ◌}
use Rattle.std.proofs.lemmas.Bool.{cases_lt}
use Rattle.std.proofs.lemmas.Int.{ints}
use Rattle.std.proofs.lemmas.Nat.{pow-add}
use Rattle.fixed_bits.specs.Nearest.{IsNearest, distance}
use Rattle.fixed_bits.specs.Numbers.{with_sign}
use Rattle.fixed_bits.specs.Ranges.{IsInRange}
use Rattle.fixed_bits.specs.declared.mode.ReadMode.TheVariants.{NearestEven}
use Rattle.fixed_bits.proofs.Public.{nearest_scaled}
use Rattle.fixed_error.specs.ErrorSize
use Rattle.fixed_error.specs.ErrorSize.{error_size}
use Rattle.fixed_numeral.specs.Numeral.{HasNumeral, Parts, is_minus}
use Rattle.fixed_numeral.specs.Value.{Fraction, magnitude}
use Rattle.fixed_numeral.specs.declared.radix.Radix.{Radix}
use Rattle.fixed_numeral.proofs.Public.{magnitude_pos, parts_unique}
use Rattle.fixed_read.specs.Reading.{IsReadNumber}
use Rattle.fixed_read.proofs.Public.{read_number_is_the_one}
use Rattle.fixed_fit.specs.Fitting.{Fits}
use Rattle.fixed_fit.specs.Range.{EndsDecide, IsAtMost, IsFitting, RangeServesEach}
use Rattle.fixed_fit.proofs.FittingLemmas.{nearest_grows}

-- the nearest number of ulps does not decrease from one fraction to a greater one
fractions_grow : (a b c d up p q : ℕ) → 0 < b → 0 < d → a * d ≤ c * b → IsNearest (a * up) b p → IsNearest (c * up) d q → p ≤ q
fractions_grow a b c d up p q some some' order x y =
    let left : IsNearest (d * (a * up)) (d * b) p = (nearest_scaled d (a * up) b p some').1 x in
    let right : IsNearest (b * (c * up)) (b * d) q = (nearest_scaled b (c * up) d q some).1 y in
    let same : b * d ≡ d * b = omega arith in
    let P : ℕ → Type 0 = λ k. IsNearest (b * (c * up)) k q in
    let grown : a * d * up ≤ c * b * up = mul-le-mul_right up order in
    let positive : 1 * 1 ≤ d * b = positive_product d b some' some in
    nearest_grows (d * (a * up)) (b * (c * up)) (d * b) p q (omega (arith, positive)) (omega (arith, grown)) left (subst P same right)
  where
    positive_product : (d b : ℕ) → 0 < d → 0 < b → 1 * 1 ≤ d * b
    positive_product d b x y = let h : 1 * b ≤ d * b = mul-le-mul_right b (omega (arith, x)) in omega (arith, h, y)

-- only zero is nearest to zero
nothing_near : (den q : ℕ) → 0 < den → IsNearest 0 den q → q ≡ 0
nothing_near den q some h =
    ⊎_elim
    (λ (more : 0 < q). absurd (let step : 1 * den ≤ q * den = mul-le-mul_right den (omega (arith, more)) in omega (arith, step, some, h.near)))
    (λ (none : q ≤ 0). omega (arith, none))
    (cases_lt 0 q)

zero_of : (a d : ℕ) → 0 < d → a * d ≤ 0 → a ≡ 0
zero_of a d some h =
    ⊎_elim
    (λ (more : 0 < a). absurd (let step : 1 * d ≤ a * d = mul-le-mul_right d (omega (arith, more)) in omega (arith, step, some, h)))
    (λ (none : a ≤ 0). omega (arith, none))
    (cases_lt 0 a)

-- signed fractions in order have nearest numbers in order
grows : (s t : Bool) (a b c d up p q : ℕ) → 0 < b → 0 < d → with_sign s (a * d) ≤ℤ with_sign t (c * b) → IsNearest (a * up) b p → IsNearest (c * up) d q → with_sign s p ≤ℤ with_sign t q
grows false false a b c d up p q some some' order x y = let less : p ≤ q = fractions_grow a b c d up p q some some' (omega (arith, ints, order)) x y in omega (arith, ints, less)
grows true true a b c d up p q some some' order x y = let less : q ≤ p = fractions_grow c d a b up q p some' some (omega (arith, ints, order)) y x in omega (arith, ints, less)
grows true false a b c d up p q some some' order x y = omega (arith, ints)
grows false true a b c d up p q some some' order x y =
    let none : a ≡ 0 = zero_of a d some' (omega (arith, ints, order)) in
    let none' : c ≡ 0 = zero_of c b some (omega (arith, ints, order)) in
    let start : a * up ≡ 0 * up = ap (λ k. k * up) none in
    let start' : c * up ≡ 0 * up = ap (λ k. k * up) none' in
    let zero : a * up ≡ 0 = omega (arith, start) in
    let zero' : c * up ≡ 0 = omega (arith, start') in
    let P : ℕ → Type 0 = λ k. IsNearest k b p in
    let Q : ℕ → Type 0 = λ k. IsNearest k d q in
    let left : p ≡ 0 = nothing_near b p some (subst P zero x) in
    let right : q ≡ 0 = nothing_near d q some' (subst Q zero' y) in
    omega (arith, ints, left, right)

read_grows : (r : Radix) (p q : Parts) (f : ℕ) (v w : ℤ) → IsAtMost r p q → IsReadNumber NearestEven r p f v → IsReadNumber NearestEven r q f w → v ≤ℤ w
read_grows r p q f v w order x y =
    let a = magnitude r p in
    let b = magnitude r q in
    let known : with_sign (is_minus p.sign) x.ulps ≤ℤ with_sign (is_minus q.sign) y.ulps = grows (is_minus p.sign) (is_minus q.sign) a.num a.den b.num b.den (2 ^ f) x.ulps y.ulps (magnitude_pos r p) (magnitude_pos r q) order x.rounded y.rounded in
    let P : ℤ → Type 0 = λ z. z ≤ℤ with_sign (is_minus q.sign) y.ulps in
    let Q : ℤ → Type 0 = λ z. v ≤ℤ z in
    subst Q (sym y.value) (subst P (sym x.value) known)

between : (s : Bool) (n : ℕ) (low v high : ℤ) → low ≤ℤ v → v ≤ℤ high → IsInRange s n low → IsInRange s n high → IsInRange s n v
between s n low v high a b x y = record { low = omega (arith, ints, x.low, a); high = omega (arith, ints, y.high, b) }

pub ends_decide : EndsDecide
ends_decide r s n f low high p above below x y =
    let v = read_number_is_the_one NearestEven r p f in
    record {
      number = v.0;
      read = v.1;
      in_range = between s n x.number v.0 y.number (read_grows r low p f x.number v.0 above x.read v.1) (read_grows r p high f v.0 y.number below v.1 y.read) x.in_range y.in_range;
    }

-- ---- a number is rounded by at most half an ulp
pow_next : (f : ℕ) → 2 ^ (f + 1) ≡ 2 ^ f * 2
pow_next f = pow-add 2 f 1

product_grows : (a b c d : ℕ) → a ≤ b → c ≤ d → a * c ≤ b * d
product_grows a b c d left right =
    let one : a * c ≤ b * c = mul-le-mul_right c left in
    let two : c * b ≤ d * b = mul-le-mul_right b right in
    omega (arith, one, two)

halved : (e den up num bd : ℕ) → 2 * e ≤ den → 1 * bd ≤ num * (up * 2) → e * bd ≤ num * (up * den)
halved e den up num bd near least =
    let both : (2 * e) * (1 * bd) ≤ den * (num * (up * 2)) = product_grows (2 * e) den (1 * bd) (num * (up * 2)) near least in
    let left : (2 * e) * (1 * bd) ≡ 2 * (e * bd) = omega arith in
    let right : den * (num * (up * 2)) ≡ 2 * (num * (up * den)) = omega arith in
    omega (arith, both, left, right)

pub within_half : (m b : Fraction) (f q : ℕ) → IsNearest (m.num * 2 ^ f) m.den q → ErrorSize.IsAtMost (record { num = 1; den = 2 ^ (f + 1) }) b → ErrorSize.IsAtMost (error_size m f q) b
within_half m b f q near least =
    let half : 1 * b.den ≤ b.num * (2 ^ f * 2) = subst (λ (u : ℕ). 1 * b.den ≤ b.num * u) (pow_next f) least in
    halved (distance (m.num * 2 ^ f) (q * m.den)) m.den (2 ^ f) b.num b.den near.near half

fitting_of : (r : Radix) (s : Bool) (n f : ℕ) (line : List ℕ) (p : Parts) → HasNumeral r line p → Fits r s n f line → IsFitting r s n f p
fitting_of r s n f line p at h =
    let same : h.parts ≡ p = parts_unique r line h.parts p h.has.beginning at.beginning in
    subst (λ (k : Parts). IsFitting r s n f k) same (record { number = h.number; read = h.read; in_range = h.in_range })

pub range_serves_each : RangeServesEach
range_serves_each r c bound low high n f l h p at at' above below x =
    let s : Bool = c.signed in
    let v = ends_decide r s n f l h p above below (fitting_of r s n f low l at x.fit.0) (fitting_of r s n f high h at' x.fit.1.0) in
    let w = x.within in
    record {
      number = v.number;
      read = v.read;
      in_range = v.in_range;
      bound_parts = w.parts;
      bound_numeral = w.numeral;
      at_most = within_half (magnitude r p) (magnitude r w.parts) f v.read.ulps v.read.rounded w.at_most;
    }
