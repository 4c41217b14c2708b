-- The value of a numeral.
use Rattle.std.proofs.Common.{◌≡◌, ℕ, zero, suc, ◌*◌, ◌^◌, ◌<◌, Bool, true, false, cond, List, [], length, Option, Some, None, ℤ, pos, negsuc, ◌-ℤ◌, refl, ap, ◌∙◌, arith, mul-le-mul_right}
use Rattle.std.proofs.Math.Nat.{one-le-pow}
use Rattle.fixed_numeral.specs.declared.radix.Radix.{Radix}
use Rattle.fixed_numeral.specs.Spelled.{spelled, IsSameNumber}
use Rattle.fixed_numeral.specs.Numeral.{Parts, Exponent, base, exponent_number, is_two_separator, fractional_digits, mantissa}
use Rattle.fixed_numeral.specs.Value.{scaled, scaled_by, magnitude}
use Rattle.std.specs.Str.Parse.{digits_value}
use Rattle.fixed_numeral.specs.Place.{NoLeadingZero, NoTrailingZero}
use Rattle.fixed_numeral.proofs.PlaceLemmas.{zero_views}
use Rattle.fixed_numeral.proofs.MagnitudeLemmas.{base_pos}

scaled_pos : (m d b : ℕ) (x : ℤ) → 0 < d → 0 < b → 0 < (scaled m d b x).den
scaled_pos m d b (pos x) p q = p
scaled_pos m d b (negsuc x) p q = omega (arith, mul-le-mul_right (b ^ suc x) p, one-le-pow (suc x) b q)

scaled_by_pos : (r : Radix) (m s : ℕ) (x : Option Exponent) → 0 < (scaled_by r m s x).den
scaled_by_pos r m s None = scaled_pos m 1 (base r) (pos 0 -ℤ pos s) (omega arith) (base_pos r)
scaled_by_pos r m s (Some e) = by_kind (is_two_separator r e.separator)
  where
    by_kind : (c : Bool) → 0 < (cond c (scaled m (base r ^ s) 2 (exponent_number e)) (scaled m 1 (base r) (exponent_number e -ℤ pos s))).den
    by_kind true = scaled_pos m (base r ^ s) 2 (exponent_number e) (one-le-pow s (base r) (base_pos r)) (omega arith)
    by_kind false = scaled_pos m 1 (base r) (exponent_number e -ℤ pos s) (omega arith) (base_pos r)

pub magnitude_pos : (r : Radix) (p : Parts) → 0 < (magnitude r p).den
magnitude_pos r p = scaled_by_pos r (digits_value (base r) (mantissa p)) (length (fractional_digits p.fraction)) p.exponent

-- a numeral of value zero has two empty views
pub views_of_zero : (r : Radix) (p : Parts) (w f : List ℕ) (bits : ℕ) → NoLeadingZero w → NoTrailingZero f → IsSameNumber (spelled (base r) w f bits) (magnitude r p) → (magnitude r p).num ≡ 0 → (w ≡ []) × (f ≡ [])
views_of_zero r p w f bits nl nt h e = zero_views (base r) bits w f (base_pos r) nl nt none
  where
    product : (x y : ℕ) → 0 < y → x * y ≡ 0 → x ≡ 0
    product zero y p e = refl
    product (suc x) y p e = absurd (omega arith)

    none : (spelled (base r) w f bits).num ≡ 0
    none = product _ (magnitude r p).den (magnitude_pos r p) (h ∙ omega (arith, ap (λ x. x * base r ^ length f) e))
