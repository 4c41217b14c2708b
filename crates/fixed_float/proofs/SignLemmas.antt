-- The float of a number by its sign and magnitude.
use Rattle.std.proofs.Common.{◌≡◌, ℕ, zero, suc, ◌+◌, ◌-◌, ◌*◌, ◌^◌, ◌<◌, ◌≤◌, Bool, true, false, if◌then◌else◌, refl, sym, ap, subst, ◌∙◌, arith, ℤ, pos, unsigned_abs}
use Rattle.std.specs.Int as Int
use Rattle.std.proofs.Math.Nat.{pow-le-pow_right}
use Rattle.std.proofs.lemmas.Int.{ints}
use Rattle.std.proofs.lemmas.Nat.{pow_pos, pow-add}
use Rattle.fixed_bits.specs.Numbers.{with_sign}
use Rattle.fixed_bits.specs.Ranges.{IsInRange}
use Rattle.fixed_bits.proofs.Public.{not_negative}
use Rattle.fixed_float.specs.Floats.{bits_of_float, exponent_bits, fraction_bits, is_negative, magnitude, precision}
use Rattle.fixed_float.specs.Inner.Fields.{IsMagnitudeFloat}
use Rattle.fixed_float.specs.Nearest.{IsExactFloat, IsNearestFloat}
use Rattle.fixed_float.specs.declared.layout.FloatLayout.{FloatLayout}
use Rattle.fixed_float.specs.declared.layout.FloatLayout.TheVariants.{Binary32, Binary64}
use Rattle.fixed_float.proofs.NearestLemmas.{Shown, exact_is, nearest_is, shown}

-- ---- zero
pub zero_nearest : (layout : FloatLayout) (f : ℕ) → IsNearestFloat layout (pos 0) f 0
unfolding magnitude
zero_nearest Binary32 f = record { sign = refl; nearest = record { finite = omega arith; nearest = λ other h. omega arith; tie = λ other h e d. refl } }
zero_nearest Binary64 f = record { sign = refl; nearest = record { finite = omega arith; nearest = λ other h. omega arith; tie = λ other h e d. refl } }

pub zero_exact : (layout : FloatLayout) (f : ℕ) → IsExactFloat layout (pos 0) f 0
unfolding magnitude
zero_exact Binary32 f = record { finite = omega arith; sign = refl; same = omega arith }
zero_exact Binary64 f = record { finite = omega arith; sign = refl; same = omega arith }

pub zero_few : (layout : FloatLayout) → 0 < 2 ^ bits_of_float layout
zero_few layout = pow_pos (bits_of_float layout)

pub some_bits : (layout : FloatLayout) → 0 < precision layout
some_bits Binary32 = omega arith
some_bits Binary64 = omega arith

pub none_is : (negative : Bool) (m : ℕ) (v : ℤ) → with_sign negative m ≡ v → m ≡ 0 → v ≡ pos 0
none_is true m v e z = sym e ∙ ap (λ x. with_sign true x) z
none_is false m v e z = sym e ∙ ap (λ x. with_sign false x) z

-- ---- numbers other than zero
sign_of : (negative : Bool) (m : ℕ) → 0 < m → Int.is_negative (with_sign negative m) ≡ negative
sign_of false m h = not_negative m
sign_of true zero h = absurd (omega arith)
sign_of true (suc m) h = refl

size_of : (negative : Bool) (m : ℕ) → unsigned_abs (with_sign negative m) ≡ m
size_of false m = refl
size_of true zero = refl
size_of true (suc m) = refl

-- the sign bit of a float, in its position
abbrev pub sign_bit : FloatLayout → Bool → ℕ
sign_bit layout negative = if negative then 2 ^ (fraction_bits layout + exponent_bits layout) else 0

shown_by : (layout : FloatLayout) (negative : Bool) (m f part bits : ℕ) → IsMagnitudeFloat layout m f part → f ≤ 64 → bits ≡ sign_bit layout negative + part → Shown layout m f bits × (is_negative layout bits ≡ negative)
shown_by layout true m f part bits d few e = shown layout m f part 1 bits d few (omega arith) (e ∙ omega arith)
shown_by layout false m f part bits d few e = shown layout m f part 0 bits d few (omega arith) (e ∙ omega arith)

-- the bits fit the width of the float
few_of : (layout : FloatLayout) (sign part f len q : ℕ) → sign ≤ 2 ^ (fraction_bits layout + exponent_bits layout) → len ≤ 64 → q ≤ 2 ^ precision layout
    → part + f * 2 ^ fraction_bits layout ≡ (2 ^ (exponent_bits layout - 1) - 3 + len) * 2 ^ fraction_bits layout + q → sign + part < 2 ^ bits_of_float layout
few_of Binary32 sign part f len q s l most are = omega arith
few_of Binary64 sign part f len q s l most are = omega arith

sign_most : (layout : FloatLayout) (negative : Bool) → sign_bit layout negative ≤ 2 ^ (fraction_bits layout + exponent_bits layout)
sign_most layout true = omega arith
sign_most layout false = omega arith

pub float_few : (layout : FloatLayout) (negative : Bool) (m f part : ℕ) → IsMagnitudeFloat layout m f part → sign_bit layout negative + part < 2 ^ bits_of_float layout
float_few layout negative m f part d = few_of layout (sign_bit layout negative) part f d.length d.significand (sign_most layout negative) d.has_length.most d.rounded.most d.bits_are

module _ (layout : FloatLayout) (negative : Bool) (m f part bits : ℕ) (v : ℤ) (d : IsMagnitudeFloat layout m f part) (few : f ≤ 64) (some : 0 < m) (e : bits ≡ sign_bit layout negative + part) (is : with_sign negative m ≡ v) where
  parts : Shown layout m f bits × (is_negative layout bits ≡ negative)
  parts = shown_by layout negative m f part bits d few e

  sign_is : is_negative layout bits ≡ Int.is_negative v
  sign_is = parts.1 ∙ sym (sign_of negative m some) ∙ ap (λ x. Int.is_negative x) is

  size_is : m ≡ unsigned_abs v
  size_is = sym (size_of negative m) ∙ ap unsigned_abs is

  pub float_nearest : IsNearestFloat layout v f bits
  float_nearest = record { sign = sign_is; nearest = rw (sym size_is) (nearest_is layout m f bits parts.0) }

  pub float_exact : m < 2 ^ precision layout → IsExactFloat layout v f bits
  float_exact low = record { finite = parts.0.finite; sign = sign_is; same = rw (sym size_is) (exact_is layout m f bits parts.0 low) }

-- the magnitude of a number of at most p bits is below 2^p
pub small : (signed negative : Bool) (p n m : ℕ) (v : ℤ) → 0 < p → with_sign negative m ≡ v → IsInRange signed n v → n ≤ p → m < 2 ^ p
small signed negative p n m v some is range few = bounded signed negative (subst (λ (x : ℤ). IsInRange signed n x) (sym is) range)
  where
    halved : 2 ^ (n - 1) ≤ 2 ^ (p - 1)
    halved = pow-le-pow_right {n = 2} (omega arith) {i = n - 1} {j = p - 1} (omega arith)

    twice : 2 ^ p ≡ 2 ^ (p - 1) * 2
    twice = let all : p ≡ (p - 1) + 1 = omega arith in ap (λ i. 2 ^ i) all ∙ pow-add 2 (p - 1) 1

    half : 0 < 2 ^ (p - 1)
    half = pow_pos (p - 1)

    full : 2 ^ n ≤ 2 ^ p
    full = pow-le-pow_right {n = 2} (omega arith) {i = n} {j = p} few

    bounded : (s g : Bool) → IsInRange s n (with_sign g m) → m < 2 ^ p
    bounded true true r = omega (arith, ints, r.low, halved, twice, half)
    bounded true false r = omega (arith, ints, r.high, halved, twice, half)
    bounded false true r = omega (arith, ints, r.low, twice, half)
    bounded false false r = omega (arith, ints, r.high, full)
