-- A value in ulps of 2^-64, counted in the longer ulps of a format.
use Rattle.std.proofs.Common.{◌≡◌, ℕ, ◌-◌, ◌*◌, ◌/◌, ◌^◌, ◌<◌, ◌↔◌, Bool, IsTrue, sym, ◌∙◌, subst, arith, pow_pos, div-add-mod'}
use Rattle.fixed_bits.specs.Formats.{FormatParts}
use Rattle.fixed_bits.specs.Ranges.{IsInRange}
use Rattle.fixed_bits.specs.Numbers.{with_sign}
use Rattle.fixed_least.specs.Inner.Exact.{HasUlps}
use Rattle.fixed_least.specs.Lemmas.HoldingLemmas.{cancel}

pub below : (n m : ℕ) → n < 2 ^ 128 → n / m * m < 2 ^ 128
below n m small = omega (arith, small, div-add-mod' n m)

pub whole_is : (n m b u : ℕ) → u ≡ b * m → u ≡ n → n ≡ b * m
whole_is n m b u up same = sym same ∙ up

pub holds_by : (f : FormatParts) (negative : Bool) (ulps bits : ℕ) (flag : Bool) → ulps ≡ bits * 2 ^ (64 - f.frac) → (IsTrue flag ↔ IsInRange f.signed f.width (with_sign negative bits)) → (IsTrue flag ↔ HasUlps f negative ulps)
holds_by f negative ulps bits flag split fits = (to, back)
  where
    to : IsTrue flag → HasUlps f negative ulps
    to t = record { count = bits; split = split; in_range = fits.0 t }

    back : HasUlps f negative ulps → IsTrue flag
    back h =
        let same : h.count ≡ bits = cancel (2 ^ (64 - f.frac)) h.count bits (pow_pos (64 - f.frac)) (sym h.split ∙ split) in
        let P : ℕ → Type 0 = λ n. IsInRange f.signed f.width (with_sign negative n) in
        fits.1 (subst P same h.in_range)
