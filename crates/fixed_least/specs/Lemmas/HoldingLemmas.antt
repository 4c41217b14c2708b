-- A value in ulps of 2^-64 decides for each format whether it holds a numeral with this value.
use Rattle.std.proofs.Common.{◌≡◌, ℕ, ◌+◌, ◌-◌, ◌*◌, ◌^◌, ◌<◌, ◌≤◌, ◌↔◌, Bool, sym, ap, ◌∙◌, subst, arith, pow_pos, inl}
use Rattle.std.proofs.Common.{inr}
use Rattle.std.proofs.Math.Nat.{le_of_mul-le-mul_left}
use Rattle.std.proofs.lemmas.Nat.{pow-add}
use Rattle.fixed_bits.specs.Formats.{FormatParts, IsTypeFormat}
use Rattle.fixed_bits.specs.Ranges.{IsInRange, IsTypeWidth}
use Rattle.fixed_numeral.specs.Numeral.{Parts}
use Rattle.fixed_numeral.specs.Value.{magnitude}
use Rattle.fixed_numeral.specs.declared.radix.Radix.{Radix}
use Rattle.fixed_numeral.proofs.Public.{magnitude_pos}
use Rattle.fixed_bits.specs.Numbers.{with_sign}
use Rattle.fixed_least.specs.Inner.Exact.{HasUlps, IsExact}
use Rattle.fixed_least.specs.Holding.{Holds}

-- a common factor cancels
pub cancel : (k a b : ℕ) → 0 < k → a * k ≡ b * k → a ≡ b
cancel k a b some e =
    let le : a ≤ b = le_of_mul-le-mul_left {k = k} (omega (arith, e)) some in
    let ge : b ≤ a = le_of_mul-le-mul_left {k = k} (omega (arith, e)) some in
    omega (arith, le, ge)

-- 2^64 = 2^f · 2^(64-f)
pub split_power : (f : ℕ) → f ≤ 64 → 2 ^ 64 ≡ 2 ^ f * 2 ^ (64 - f)
split_power f fits =
    let whole : f + (64 - f) ≡ 64 = omega arith in
    ap (λ k. 2 ^ k) (sym whole) ∙ pow-add 2 f (64 - f)

pub width_most : (n : ℕ) → IsTypeWidth n → n ≤ 64
width_most n (inl e) = omega arith
width_most n (inr (inl e)) = omega arith
width_most n (inr (inr (inl e))) = omega arith
width_most n (inr (inr (inr e))) = omega arith

pub frac_most : (f : FormatParts) → IsTypeFormat f.width f.frac → f.frac ≤ 64
frac_most f is = omega (arith, is.within, width_most f.width is.is_width)

to_ulps : (num den up down one ulps count : ℕ) → 0 < den → one ≡ up * down → num * one ≡ ulps * den
    → num * up ≡ count * den → ulps ≡ count * down
to_ulps num den up down one ulps count some split exact holds =
    cancel den ulps (count * down) some (sym exact ∙ (ap (λ x. num * x) split ∙ omega
    (arith, ap (λ x. x * down) holds)))

to_count : (num den up down one ulps count : ℕ) → 0 < down → one ≡ up * down → num * one ≡ ulps * den
    → ulps ≡ count * down → num * up ≡ count * den
to_count num den up down one ulps count some split exact is =
    cancel down (num * up) (count * den) some (omega (arith, ap (λ x. num * x) split, exact, ap (λ x. x * den) is))

pub exact_decides : (r : Radix) (p : Parts) (f : FormatParts) (negative : Bool) (ulps : ℕ) → IsTypeFormat f.width f.frac
    → IsExact r p negative ulps → Holds r p f ↔ HasUlps f negative ulps
exact_decides r p f negative ulps is exact = (to, back)
  where
    to : Holds r p f → HasUlps f negative ulps
    to h = record {
      count = h.count;
      split = to_ulps (magnitude r p).num (magnitude r p).den (2 ^ f.frac) (2 ^ (64 - f.frac)) (2 ^ 64) ulps h.count
          (magnitude_pos r p) (split_power f.frac (frac_most f is)) exact.exact h.exact;
      in_range = let P : Bool → Type 0 = λ b. IsInRange f.signed f.width (with_sign b h.count)
          in subst P (sym exact.sign) h.in_range;
    }

    back : HasUlps f negative ulps → Holds r p f
    back h = record {
      count = h.count;
      exact = to_count (magnitude r p).num (magnitude r p).den (2 ^ f.frac) (2 ^ (64 - f.frac)) (2 ^ 64) ulps h.count
          (pow_pos (64 - f.frac)) (split_power f.frac (frac_most f is)) exact.exact h.split;
      in_range = let P : Bool → Type 0 = λ b. IsInRange f.signed f.width (with_sign b h.count)
          in subst P exact.sign h.in_range;
    }
