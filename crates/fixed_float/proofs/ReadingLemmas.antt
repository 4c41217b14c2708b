-- The number that a significand reads as: shifted and rounded.
use Rattle.std.proofs.Common.{◌≡◌, ℕ, ◌+◌, ◌-◌, ◌*◌, ◌/◌, ◌%◌, ◌^◌, ◌<◌, ◌≤◌, ◌⊎◌, ◌↔◌, Bool, IsTrue, refl, sym, ap, subst, ◌∙◌, arith, inl, inr, ⊎_elim, div-add-mod', min, mul-le-mul_right, true}
use Rattle.std.proofs.Math.Nat.{div-eq_of_lt, eq_of_mul-eq-mul_right, mod-eq_of_lt, mul-mod_left, pow-le-pow_right}
use Rattle.std.proofs.lemmas.Bool.{cases_lt}
use Rattle.std.proofs.lemmas.Nat.{pow_pos, pow-add}
use Rattle.fixed_bits.proofs.Public.{rounded_exact, rounded_same}
use Rattle.fixed_bits.specs.Numbers.{IsNumber, with_sign}
use Rattle.fixed_bits.specs.Rounded.{IsRounded}
use Rattle.fixed_bits.specs.declared.mode.ReadMode.{ReadMode}
use Rattle.fixed_bits.specs.declared.number.Number.{Number}
use Rattle.fixed_float.specs.Inner.Fields.{IsLowOf, IsScaledReading}
use Rattle.fixed_float.specs.declared.layout.FloatFields.{FloatFields}
use Rattle.fixed_read.specs.Reading.{IsMultipleOf, number_in}
use Rattle.fixed_read.specs.declared.read_number.ReadNumber.{ReadNumber}

-- ---- powers of two
joined : (m e f : ℕ) → m * 2 ^ e * 2 ^ f ≡ m * 2 ^ (e + f)
joined m e f = omega (arith, ap (λ x. m * x) (pow-add 2 e f))

split : (m a d b : ℕ) → d + b ≡ a → m * 2 ^ a ≡ m * 2 ^ d * 2 ^ b
split m a d b e = ap (λ x. m * 2 ^ x) (sym e) ∙ sym (joined m d b)

-- ---- a number from its low 64 bits
low_of : (number : Number) (negative : Bool) (a b : ℕ) → number.negative ≡ negative → IsLowOf number a → a % 2 ^ 64 ≡ b % 2 ^ 64 → (2 ^ 64 ≤ a) ↔ (2 ^ 64 ≤ b) → IsNumber number (with_sign negative b)
low_of number negative a b sign low same over = record {
  high = b / 2 ^ 64;
  value =
      let sum : b ≡ b / 2 ^ 64 * 2 ^ 64 + number.low = sym (div-add-mod' b (2 ^ 64)) ∙ ap (λ x. b / 2 ^ 64 * 2 ^ 64 + x) (sym (low.low ∙ same)) in
      ap (λ x. with_sign negative x) sum ∙ ap (λ s. with_sign s (b / 2 ^ 64 * 2 ^ 64 + number.low)) (sym sign);
  over = (λ t. let l : 2 ^ 64 ≤ b = over.0 (low.over.0 t) in omega arith, λ (p : 0 < b / 2 ^ 64). let l : 2 ^ 64 ≤ b = omega arith in low.over.1 (over.1 l));
}

-- the number that m * 2^s reads as at fraction length f, if an ulp is 2^u; it is exact if `rest` is 0
pub record Scaled (mode : ReadMode) (negative : Bool) (m s f u rest : ℕ) (number : Number) : Type 0 where
  pub ulps : ℕ
  pub rounded : IsRounded mode negative (m * 2 ^ s * 2 ^ f) (2 ^ u) ulps
  pub holds : IsNumber number (with_sign negative ulps)
  pub exact : (rest ≡ 0) ↔ IsMultipleOf (2 ^ u) (m * 2 ^ s * 2 ^ f)

module _ (mode : ReadMode) (negative : Bool) (m s f u : ℕ) (number : Number) (sign : number.negative ≡ negative) where
  -- ---- a significand of whole ulps
  module _ (d left : ℕ) (whole : d + u ≡ s + f) (left_is : left ≡ min d 64) (low : IsLowOf number (m * 2 ^ left)) where
    exactly : m * 2 ^ s * 2 ^ f ≡ m * 2 ^ d * 2 ^ u
    exactly = joined m s f ∙ split m (s + f) d u whole

    is_held : IsNumber number (with_sign negative (m * 2 ^ d))
    is_held = ⊎_elim
        (λ (l : 64 < d).
        let e : m * 2 ^ d ≡ m * 2 ^ (d - 64) * 2 ^ 64 = split m d (d - 64) 64 (omega arith) in
        let some = pow_pos (d - 64) in
        let c : m * 2 ^ left ≡ m * 2 ^ 64 = let left_is : left ≡ 64 = omega (arith, left_is) in ap (λ x. m * 2 ^ x) left_is in
        low_of number negative (m * 2 ^ 64) (m * 2 ^ d) sign (subst (λ (x : ℕ). IsLowOf number x) c low) (omega arith) (λ h. grown_past m (2 ^ (d - 64)) (m * 2 ^ d) e some h, λ h. ungrown m (2 ^ (d - 64)) (m * 2 ^ d) e h))
        (λ (l : d ≤ 64).
        let c : m * 2 ^ left ≡ m * 2 ^ d = let left_is : left ≡ d = omega (arith, left_is) in ap (λ x. m * 2 ^ x) left_is in
        low_of number negative (m * 2 ^ d) (m * 2 ^ d) sign (subst (λ (x : ℕ). IsLowOf number x) c low) refl (λ h. h, λ h. h))
        (cases_lt 64 d)
      where
        grown_past : (a k b : ℕ) → b ≡ a * k * 2 ^ 64 → 0 < k → 2 ^ 64 ≤ a * 2 ^ 64 → 2 ^ 64 ≤ b
        grown_past a k b e some h = let p : 1 * k ≤ a * k = mul-le-mul_right k (omega arith) in omega arith

        ungrown : (a k b : ℕ) → b ≡ a * k * 2 ^ 64 → 2 ^ 64 ≤ b → 2 ^ 64 ≤ a * 2 ^ 64
        ungrown a k b e h = ⊎_elim (λ (z : a < 1). let none : a ≡ 0 = omega arith in absurd (let flat : b ≡ 0 = e ∙ ap (λ x. x * k * 2 ^ 64) none ∙ omega arith in omega arith)) (λ (l : 1 ≤ a). omega arith) (cases_lt a 1)

    pub longer : Scaled mode negative m s f u 0 number
    longer = record {
      ulps = m * 2 ^ d;
      rounded = subst (λ (n : ℕ). IsRounded mode negative n (2 ^ u) (m * 2 ^ d)) (sym exactly) (rounded_exact mode negative (m * 2 ^ d) (2 ^ u) (pow_pos u));
      holds = is_held;
      exact = (λ e. (m * 2 ^ d, exactly), λ e. refl);
    }

  -- ---- a significand that may be rounded
  module _ (few : m < 2 ^ 53) (k right more : ℕ) (part : k + (s + f) ≡ u) (right_is : right ≡ min k 62)
      (rounds : (q den : ℕ) → q % 2 ≡ m / 2 ^ right % 2 → (2 ^ right ≡ den) ⊎ ((2 * (m % 2 ^ right) < 2 ^ right) × (2 ^ right ≤ den)) → IsRounded mode negative (q * den + m % 2 ^ right) den (q + more))
      (low : IsLowOf number (m / 2 ^ right + more)) where
    cut : k ≤ 62 → right ≡ k
    cut l = omega (arith, right_is, l)

    far : 62 < k → right ≡ 62
    far l = omega (arith, right_is, l)

    scaled : m * 2 ^ s * 2 ^ f ≡ m * 2 ^ (s + f)
    scaled = joined m s f

    unit : 2 ^ u ≡ 2 ^ k * 2 ^ (s + f)
    unit = ap (λ x. 2 ^ x) (sym part) ∙ pow-add 2 k (s + f)

    cross : m * 2 ^ u ≡ m * 2 ^ s * 2 ^ f * 2 ^ k
    cross = omega (arith, ap (λ x. m * x) unit, ap (λ x. x * 2 ^ k) scaled)

    to_unit : (q : ℕ) → IsRounded mode negative m (2 ^ k) q → IsRounded mode negative (m * 2 ^ s * 2 ^ f) (2 ^ u) q
    to_unit q h = rounded_same mode negative m (2 ^ k) (m * 2 ^ s * 2 ^ f) (2 ^ u) q (pow_pos k) (pow_pos u) cross h

    quotient : (j : ℕ) → m * 2 ^ s * 2 ^ f ≡ j * 2 ^ u → m ≡ j * 2 ^ k
    quotient j e = eq_of_mul-eq-mul_right (2 ^ (s + f)) (pow_pos (s + f)) m (j * 2 ^ k) (sym scaled ∙ e ∙ omega (arith, ap (λ x. j * x) unit))

    near : k ≤ 62 → (m / 2 ^ right * 2 ^ k + m % 2 ^ right ≡ m) × (m % 2 ^ right ≡ m % 2 ^ k)
    near l = (rw (cut l) (div-add-mod' m (2 ^ k)), rw (cut l) refl)

    past : 62 < k → (m / 2 ^ right ≡ 0) × (m % 2 ^ right ≡ m)
    past l = (rw (far l) (div-eq_of_lt (omega arith)), rw (far l) (mod-eq_of_lt (omega arith)))

    within : 62 < k → 2 ^ 62 ≤ 2 ^ k
    within l = pow-le-pow_right {n = 2} (omega arith) {i = 62} {j = k} (omega arith)

    rounded_part : IsRounded mode negative m (2 ^ k) (m / 2 ^ right + more)
    rounded_part = ⊎_elim
        (λ (l : 62 < k).
        let p = past l in
        let unit_is : 2 ^ right ≡ 2 ^ 62 = ap (λ x. 2 ^ x) (far l) in
        let half : 2 * (m % 2 ^ right) < 2 ^ right = subst (λ (x : ℕ). 2 * x < 2 ^ right) (sym p.1) (subst (λ (x : ℕ). 2 * m < x) (sym unit_is) (omega arith)) in
        let h = rounds (m / 2 ^ right) (2 ^ k) refl (inr (half, subst (λ (x : ℕ). x ≤ 2 ^ k) (sym unit_is) (within l))) in
        subst (λ (x : ℕ). IsRounded mode negative x (2 ^ k) (m / 2 ^ right + more)) (omega (arith, p.1, ap (λ x. x * 2 ^ k) p.0)) h)
        (λ (l : k ≤ 62).
        let h = rounds (m / 2 ^ right) (2 ^ k) refl (inl (rw (cut l) refl)) in
        subst (λ (x : ℕ). IsRounded mode negative x (2 ^ k) (m / 2 ^ right + more)) (near l).0 h)
        (cases_lt 62 k)

    exact_part : (m % 2 ^ right ≡ 0) ↔ IsMultipleOf (2 ^ u) (m * 2 ^ s * 2 ^ f)
    exact_part = ⊎_elim
        (λ (l : 62 < k).
        let p = past l in
        let big = within l in (
          λ e. let none : m ≡ 0 = sym p.1 ∙ e in (0, ap (λ x. x * 2 ^ s * 2 ^ f) none ∙ omega arith),
          λ (j, e). p.1 ∙ smaller j (2 ^ k) (quotient j e) (omega arith),
        ))
        (λ (l : k ≤ 62).
        let n = near l in (
          λ e. (m / 2 ^ right, let sum : m ≡ m / 2 ^ right * 2 ^ k = omega (arith, n.0, e) in omega (arith, scaled, ap (λ x. x * 2 ^ (s + f)) sum, ap (λ x. m / 2 ^ right * x) unit)),
          λ (j, e). n.1 ∙ ap (λ x. x % 2 ^ k) (quotient j e) ∙ mul-mod_left j (2 ^ k),
        ))
        (cases_lt 62 k)
      where
        smaller : (j b : ℕ) → m ≡ j * b → m < b → m ≡ 0
        smaller j b e l = ⊎_elim (λ (z : j < 1). let none : j ≡ 0 = omega arith in e ∙ ap (λ x. x * b) none ∙ omega arith) (λ (o : 1 ≤ j). absurd (let p : 1 * b ≤ j * b = mul-le-mul_right b o in omega arith)) (cases_lt j 1)

    pub shorter : Scaled mode negative m s f u (m % 2 ^ right) number
    shorter = record {
      ulps = m / 2 ^ right + more;
      rounded = to_unit (m / 2 ^ right + more) rounded_part;
      holds = low_of number negative (m / 2 ^ right + more) (m / 2 ^ right + more) sign low refl (λ h. h, λ h. h);
      exact = exact_part;
    }

-- ---- restated for the goals
reading_from : (mode : ReadMode) (fields : FloatFields) (f u rest : ℕ) (number : Number) (found : ReadNumber) → Scaled mode fields.negative fields.significand fields.scale f u rest number
    → number.negative ≡ fields.negative → number_in found ≡ number → found.format.frac ≡ f → IsTrue found.exact ↔ (rest ≡ 0) → IsScaledReading mode fields u found
reading_from mode fields f u rest number found scaled sign held frac exact =
    let m : ℕ = fields.significand in record {
      ulps = scaled.ulps;
      rounded = subst (λ (x : ℕ). IsRounded mode fields.negative (m * 2 ^ fields.scale * 2 ^ x) (2 ^ u) scaled.ulps) (sym frac) scaled.rounded;
      holds = subst (λ (n : Number). IsNumber n (with_sign fields.negative scaled.ulps)) (sym held) scaled.holds;
      sign = ap (λ n. n.negative) held ∙ sign;
      exact = subst (λ (x : ℕ). IsTrue found.exact ↔ IsMultipleOf (2 ^ u) (m * 2 ^ fields.scale * 2 ^ x)) (sym frac) (λ t. scaled.exact.0 (exact.0 t), λ h. exact.1 (scaled.exact.1 h));
    }

pub whole_reading : (mode : ReadMode) (fields : FloatFields) (f u up left magnitude : ℕ) (number : Number) (found : ReadNumber) → up + u ≡ fields.scale + f → left ≡ min up 64 → magnitude ≡ fields.significand * 2 ^ left
    → number.negative ≡ fields.negative → IsLowOf number magnitude → number_in found ≡ number → found.format.frac ≡ f → found.exact ≡ true → IsScaledReading mode fields u found
whole_reading mode fields f u up left magnitude number found up_is left_is magnitude_is sign low held frac exact =
    let low' : IsLowOf number (fields.significand * 2 ^ left) = subst (λ (x : ℕ). IsLowOf number x) magnitude_is low in
    reading_from mode fields f u 0 number found (longer mode fields.negative fields.significand fields.scale f u number sign up left up_is left_is low') sign held frac (λ t. refl, λ e. exact)

pub part_reading : (mode : ReadMode) (fields : FloatFields) (f u down right ulp whole total more : ℕ) (number : Number) (found : ReadNumber)
    → down + (fields.scale + f) ≡ u → right ≡ min down 62 → ulp ≡ 2 ^ right → whole ≡ fields.significand / 2 ^ right → total ≡ whole + more
    → ((q den : ℕ) → q % 2 ≡ whole % 2 → (ulp ≡ den) ⊎ ((2 * (fields.significand % ulp) < ulp) × (ulp ≤ den)) → IsRounded mode fields.negative (q * den + fields.significand % ulp) den (q + more))
    → number.negative ≡ fields.negative → IsLowOf number total → fields.significand < 2 ^ 53
    → number_in found ≡ number → found.format.frac ≡ f → IsTrue found.exact ↔ (fields.significand % ulp ≡ 0) → IsScaledReading mode fields u found
part_reading mode fields f u down right ulp whole total more number found down_is right_is ulp_is whole_is total_is rounds sign low few held frac exact =
    let m : ℕ = fields.significand in
    let rounds' : (q den : ℕ) → q % 2 ≡ m / 2 ^ right % 2 → (2 ^ right ≡ den) ⊎ ((2 * (m % 2 ^ right) < 2 ^ right) × (2 ^ right ≤ den)) → IsRounded mode fields.negative (q * den + m % 2 ^ right) den (q + more) =
    subst (λ (x : ℕ). (q den : ℕ) → q % 2 ≡ x % 2 → (2 ^ right ≡ den) ⊎ ((2 * (m % 2 ^ right) < 2 ^ right) × (2 ^ right ≤ den)) → IsRounded mode fields.negative (q * den + m % 2 ^ right) den (q + more)) whole_is
    (subst (λ (x : ℕ). (q den : ℕ) → q % 2 ≡ whole % 2 → (x ≡ den) ⊎ ((2 * (m % x) < x) × (x ≤ den)) → IsRounded mode fields.negative (q * den + m % x) den (q + more)) ulp_is rounds) in
    let low' : IsLowOf number (m / 2 ^ right + more) = subst (λ (x : ℕ). IsLowOf number x) (total_is ∙ ap (λ x. x + more) whole_is) low in
    let exact' : IsTrue found.exact ↔ (m % 2 ^ right ≡ 0) = subst (λ (x : ℕ). IsTrue found.exact ↔ (m % x ≡ 0)) ulp_is exact in
    reading_from mode fields f u (m % 2 ^ right) number found (shorter mode fields.negative m fields.scale f u number sign few down right more down_is right_is rounds' low') sign held frac exact'
