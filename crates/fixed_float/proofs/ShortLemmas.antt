-- The number that a short float reads as: its significand, shifted up by eight bits and rounded.
use Rattle.std.proofs.Common.{◌≡◌, ◌⊎◌, ◌↔◌, ℕ, ◌+◌, ◌-◌, ◌*◌, ◌/◌, ◌%◌, ◌^◌, ◌<◌, ◌≤◌, ◌==◌, if◌then◌else◌, Bool, false, Option, Some, None, IsSome, ⊎_elim, arith, ap, subst, sym, ◌∙◌, refl, min, inl, inr, zero, suc}
use Rattle.std.specs.Prelude.{IfSome}
use Rattle.std.proofs.Math.Dec.{eqb-suc-zero}
use Rattle.std.proofs.Math.Nat.{pow-le-pow_right}
use Rattle.std.proofs.lemmas.Bool.{cases_lt}
use Rattle.std.proofs.lemmas.Nat.{pow_pos, pow-add}
use Rattle.fixed_bits.proofs.Public.{magnitude_rounded, rounded_same}
use Rattle.fixed_bits.specs.Numbers.{with_sign}
use Rattle.fixed_bits.specs.Rounded.{IsRounded, magnitude_mode}
use Rattle.fixed_bits.specs.declared.mode.ReadMode.{ReadMode}
use Rattle.fixed_float.proofs.BiasLemmas.{rounded}
use Rattle.fixed_float.proofs.IncrementLemmas.{far_alike}
use Rattle.fixed_float.specs.Floats.{IsFinite, exponent_field, magnitude, scale, significand, unit_scale}
use Rattle.fixed_float.specs.Inner.Bias.{bias}
use Rattle.fixed_float.specs.Inner.Fields.{AreFields, IsShortOf}
use Rattle.fixed_float.specs.Short.{IsShort, IsShortReading}
use Rattle.fixed_float.specs.declared.layout.FloatFields.{FloatFields}
use Rattle.fixed_float.specs.declared.layout.FloatLayout.{FloatLayout}
use Rattle.fixed_float.specs.declared.layout.FloatLayout.TheVariants.{Binary32, Binary64}
use Rattle.fixed_float.specs.declared.short.ShortNumber.{ShortNumber}

-- ---- a part of an ulp, rounded in a mode and with a sign
pub half_of : (down : ℕ) → 0 < down → 2 ^ down ≡ 2 * 2 ^ (down - 1)
half_of down some = let e : down ≡ 1 + (down - 1) = omega (arith, some) in ap (λ x. 2 ^ x) e ∙ pow-add 2 1 (down - 1)

pub half_most : (down : ℕ) → 0 < down → down ≤ 62 → 2 ^ (down - 1) ≤ 2 ^ 61
half_most down some most = pow-le-pow_right {n = 2} (omega arith) {i = down - 1} {j = 61} (omega (arith, some, most))

-- n is rounded like 0 ulps and a rest of n
lifted : (mode : ReadMode) (n u p : ℕ) → IsRounded mode false n u p → IsRounded mode false (0 * u + n) u (0 + p)
lifted mode n u p h =
    let num : n ≡ 0 * u + n = omega arith in
    let ulps : p ≡ 0 + p = omega arith in
    subst (λ (x : ℕ). IsRounded mode false x u (0 + p)) num (subst (λ (x : ℕ). IsRounded mode false n u x) ulps h)

fallen : (mode : ReadMode) (n u p : ℕ) → IsRounded mode false (0 * u + n) u (0 + p) → IsRounded mode false n u p
fallen mode n u p h =
    let num : 0 * u + n ≡ n = omega arith in
    let ulps : 0 + p ≡ p = omega arith in
    subst (λ (x : ℕ). IsRounded mode false x u p) num (subst (λ (x : ℕ). IsRounded mode false (0 * u + n) u x) ulps h)

pub ulps_are : (mode : ReadMode) (negative : Bool) (n down add den : ℕ) → 0 < down → add ≡ bias (magnitude_mode mode negative) (2 ^ (down - 1)) (n / 2 ^ down % 2)
    → (2 ^ down ≡ den) ⊎ ((2 * n < 2 ^ down) × (2 ^ down ≤ den)) → IsRounded mode negative n den ((n + add) / 2 ^ down)
ulps_are mode negative n down add den some sum either =
    let h = 2 ^ (down - 1) in
    let own = magnitude_mode mode negative in
    let ulps = (n + add) / 2 ^ down in
    let unit : 2 * h ≡ 2 ^ down = sym (half_of down some) in
    let at_half : add ≡ bias own h (n / (2 * h) % 2) = sum ∙ ap (λ x. bias own h (n / x % 2)) (sym unit) in
    let here : IsRounded own false n (2 ^ down) ulps = subst (λ (x : ℕ). IsRounded own false n x ((n + add) / x)) unit (rounded own n h add (pow_pos (down - 1)) at_half) in
    magnitude_rounded mode negative n den ulps (⊎_elim
    (λ e. subst (λ (x : ℕ). IsRounded own false n x ulps) e here)
    (λ far. fallen own n den ulps (far_alike own 0 n (2 ^ down) den ulps far.0 far.1 (lifted own n (2 ^ down) ulps here)))
    either)

-- ---- the number of a significand
pub shifted : (mode : ReadMode) (negative : Bool) (m s f u right ulps : ℕ) → m < 2 ^ 53 → s + f ≤ u + 7 → right ≡ min (u + 8 - (s + f)) 62
    → ((den : ℕ) → (2 ^ right ≡ den) ⊎ ((2 * (256 * m) < 2 ^ right) × (2 ^ right ≤ den)) → IsRounded mode negative (256 * m) den ulps)
    → IsRounded mode negative (m * 2 ^ s * 2 ^ f) (2 ^ u) ulps
shifted mode negative m s f u right ulps few short right_is rounds =
    let k = u + 8 - (s + f) in
    let scaled : m * 2 ^ s * 2 ^ f ≡ m * 2 ^ (s + f) = omega (arith, ap (λ x. m * x) (pow-add 2 s f)) in
    let sums : k + (s + f) ≡ 8 + u = omega (arith, short) in
    let powers : 2 ^ k * 2 ^ (s + f) ≡ 2 ^ 8 * 2 ^ u = sym (pow-add 2 k (s + f)) ∙ ap (λ x. 2 ^ x) sums ∙ pow-add 2 8 u in
    let cross : 256 * m * 2 ^ u ≡ m * 2 ^ s * 2 ^ f * 2 ^ k = omega (arith, ap (λ x. m * x) powers, ap (λ x. x * 2 ^ k) scaled) in
    let near : IsRounded mode negative (256 * m) (2 ^ k) ulps = rounds (2 ^ k) (⊎_elim
    (λ (l : 62 < k).
    let is : right ≡ 62 = omega (arith, right_is, l) in
    let unit : 2 ^ right ≡ 2 ^ 62 = ap (λ x. 2 ^ x) is in
    inr (subst (λ (x : ℕ). 2 * (256 * m) < x) (sym unit) (omega (arith, few)), subst (λ (x : ℕ). x ≤ 2 ^ k) (sym unit) (pow-le-pow_right {n = 2} (omega arith) {i = 62} {j = k} (omega (arith, l)))))
    (λ (l : k ≤ 62). inl (let is : right ≡ k = omega (arith, right_is, l) in ap (λ x. 2 ^ x) is))
    (cases_lt 62 k)) in
    rounded_same mode negative (256 * m) (2 ^ k) (m * 2 ^ s * 2 ^ f) (2 ^ u) ulps (pow_pos k) (pow_pos u) cross near

-- ---- the number of a float
not_zero : (e : ℕ) → 1 ≤ e → (e == 0) ≡ false
not_zero zero o = absurd (omega (arith, o))
not_zero (suc e) o = eqb-suc-zero e

exponent_below : (e most top f : ℕ) → most < top → (if e == 0 then 1 else e) + f ≤ most → e < top
exponent_below e most top f l h = ⊎_elim (λ (z : e < 1). omega (arith, z, l)) (λ (o : 1 ≤ e). let not : (e == 0) ≡ false = not_zero e o in let h' : e + f ≤ most = rw not at h in omega (arith, l, h')) (cases_lt e 1)

short_finite : (layout : FloatLayout) (bits f : ℕ) → IsShort layout bits f → IsFinite layout bits
short_finite Binary32 bits f short = exponent_below (exponent_field Binary32 bits) 157 255 f (omega arith) short
short_finite Binary64 bits f short = exponent_below (exponent_field Binary64 bits) 1082 2047 f (omega arith) short

pub short_reading : (mode : ReadMode) (layout : FloatLayout) (bits f unit : ℕ) (fields : FloatFields) (answer : Option ShortNumber) → unit ≡ unit_scale layout → AreFields layout bits fields
    → IsSome answer ↔ (fields.scale + f ≤ unit + 7) → IfSome answer (IsShortOf mode fields unit f) → IfSome answer (IsShortReading mode layout bits f)
unfolding magnitude
short_reading mode layout bits f unit fields None u a some is = is
short_reading mode layout bits f unit fields (Some n) u a some is =
    let short : fields.scale + f ≤ unit + 7 = some.0 refl in
    let num : fields.significand * 2 ^ fields.scale ≡ significand layout bits * 2 ^ scale layout bits = rw (a.significand_is, a.scale_is) refl in
    let at_unit : IsRounded mode fields.negative (significand layout bits * 2 ^ scale layout bits * 2 ^ f) (2 ^ unit_scale layout) n.magnitude =
    subst (λ (k : ℕ). IsRounded mode fields.negative (significand layout bits * 2 ^ scale layout bits * 2 ^ f) (2 ^ k) n.magnitude) u
    (subst (λ (x : ℕ). IsRounded mode fields.negative (x * 2 ^ f) (2 ^ unit) n.magnitude) num is.rounded) in
    record {
      finite = short_finite layout bits f (subst (λ (k : ℕ). scale layout bits + f ≤ k + 7) u (subst (λ (s : ℕ). s + f ≤ unit + 7) a.scale_is short));
      read = record {
        ulps = n.magnitude;
        rounded = subst (λ (s : Bool). IsRounded mode s (significand layout bits * 2 ^ scale layout bits * 2 ^ f) (2 ^ unit_scale layout) n.magnitude) a.sign_is at_unit;
        value = ap (λ s. with_sign s n.magnitude) (is.sign ∙ a.sign_is);
      };
    }
