-- The numbers of a numeral's parts.
use Rattle.std.proofs.Common.{◌≡◌, ℕ, ◌+◌, ◌*◌, ◌^◌, ◌≤◌, Bool, true, false, cond, List, ◌++◌, map, length, Option, Some, None, ℤ, pos, neg_ℤ, ◌-ℤ◌, FitsSigned, w32, refl, ap, ◌∙◌, arith}
use Rattle.std.proofs.lemmas.Int.{ints}
use Rattle.std.proofs.lemmas.Int.Digits.{digits_value_is}
use Rattle.std.proofs.lemmas.List.{length-map, map-append}
use Rattle.std.specs.Char.{digit_value}
use Rattle.std.specs.Int.Digits.{number_from_digits}
use Rattle.std.specs.Str.Parse.{digits_value}
use Rattle.fixed_numeral.specs.declared.radix.Radix.{Radix}
use Rattle.fixed_numeral.specs.Numeral.{Parts, Exponent, base, is_minus, is_two_separator, exponent_number, mantissa, fractional_digits}
use Rattle.fixed_numeral.specs.Value.{scaled, scaled_by}
use Rattle.fixed_numeral.specs.Inner.Scan.{max_magnitude}
use Rattle.fixed_numeral.specs.PartNumbers.{exponent_value, is_power_of_two, placed_magnitude, IsShortNumeral}
use Rattle.fixed_numeral.proofs.SpelledLemmas.{number_append}

-- ---- the exponent
pub signed_fits : (c : Bool) (n : ℕ) → n ≤ max_magnitude c → FitsSigned w32 (cond c (neg_ℤ (pos n)) (pos n))
signed_fits true n h = omega (arith, ints)
signed_fits false n h = omega (arith, ints)

-- ---- the value
pub value_append : (b : ℕ) (xs ys : List ℕ) → digits_value b (xs ++ ys) ≡ digits_value b xs * b ^ length ys + digits_value b ys
value_append b xs ys =
    let whole = digits_value_is b (xs ++ ys) ∙ ap (number_from_digits b) (map-append digit_value xs ys) ∙ number_append b (map digit_value xs) (map digit_value ys) in
    rw (digits_value_is b xs, digits_value_is b ys) (whole ∙ rw (length-map ys digit_value) refl)

pub placed_is : (r : Radix) (m s : ℕ) (x : Option Exponent) → scaled_by r m s x ≡ placed_magnitude r m s (exponent_value x) (is_power_of_two r x)
placed_is r m s None = refl
placed_is r m s (Some e) = by_kind (is_two_separator r e.separator)
  where
    by_kind : (c : Bool) → cond c (scaled m (base r ^ s) 2 (exponent_number e)) (scaled m 1 (base r) (exponent_number e -ℤ pos s)) ≡ placed_magnitude r m s (exponent_number e) c
    by_kind true = refl
    by_kind false = refl

pub short_by : (r : Radix) (p : Parts) (negative : Bool) (whole fraction places : ℕ) (exponent : ℤ) (two : Bool) → negative ≡ is_minus p.sign → whole ≡ digits_value (base r) p.whole → fraction ≡ digits_value (base r) (fractional_digits p.fraction) → places ≡ length (fractional_digits p.fraction) → exponent ≡ exponent_value p.exponent → two ≡ is_power_of_two r p.exponent → IsShortNumeral r p negative whole fraction places exponent two
short_by r p negative whole fraction places exponent two n w f l e t = record {
  sign = n;
  whole_number = w;
  fraction_number = f;
  fraction_length = l;
  exponent_is = e;
  separator = t;
  value =
      let joined : digits_value (base r) (mantissa p) ≡ whole * base r ^ places + fraction = value_append (base r) p.whole (fractional_digits p.fraction) ∙ rw (w, f, l) refl in
      rw (← joined) (rw (l, e, t) (placed_is r (digits_value (base r) (mantissa p)) (length (fractional_digits p.fraction)) p.exponent));
}
