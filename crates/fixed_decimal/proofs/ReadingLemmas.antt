-- The number of units that a numeral is read as.
use Rattle.std.proofs.Common.{◌≡◌, ℕ, zero, suc, ◌+◌, ◌*◌, ◌^◌, Bool, false, List, length, refl, ap, subst, ◌∙◌, arith, ℤ, pos, negsuc, ◌-ℤ◌, Option, Some, None, IfSome}
use Rattle.std.proofs.lemmas.Int.{ints}
use Rattle.std.proofs.Math.Nat.{one-le-pow}
use Rattle.fixed_bits.proofs.Public.{magnitude_rounded}
use Rattle.fixed_bits.specs.Numbers.{with_sign}
use Rattle.fixed_bits.specs.Rounded.{IsRounded, magnitude_mode}
use Rattle.fixed_bits.specs.declared.mode.ReadMode.{ReadMode}
use Rattle.fixed_bits.specs.declared.number.Number.{Number}
use Rattle.fixed_decimal.proofs.UnitsLemmas.{counted_same}
use Rattle.fixed_decimal.specs.Decimals.{IsDecimalReading}
use Rattle.fixed_decimal.specs.Inner.Units.{AreUnits, IsCounted}
use Rattle.fixed_decimal.specs.declared.number.DecimalNumber.{DecimalNumber}
use Rattle.fixed_decimal.specs.declared.count.Count.{Count}
use Rattle.fixed_decimal.specs.declared.count.Units.{Units}
use Rattle.fixed_numeral.specs.Numeral.{Parts, Exponent, is_minus}
use Rattle.fixed_numeral.specs.PartNumbers.{IsShortNumeral, is_power_of_two, placed_magnitude}
use Rattle.fixed_numeral.specs.Scanned.{IsScanned}
use Rattle.fixed_numeral.specs.Spelled.{spelled, IsSameNumber}
use Rattle.fixed_numeral.specs.Value.{magnitude, scaled}
use Rattle.fixed_numeral.specs.declared.radix.Radix.TheVariants.{Dec}

-- ---- cases of an option
pub if_some : {T : Type 0} (P Q : T → Type 0) (o : Option T) → ((x : T) → P x → Q x) → IfSome o P → IfSome o Q
if_some P Q None f h = h
if_some P Q (Some x) f h = f x h

-- the number with this sign and these units
abbrev number_of_units : Bool → Units → Number
number_of_units negative units = record { low = units.low; negative = negative; has_high_bits = units.has_high_bits }

pub reading_from : (mode : ReadMode) (p : Parts) (negative : Bool) (n : ℕ) (units : Units) (found : DecimalNumber) → found.number ≡ number_of_units negative units → found.format ≡ n → found.exact ≡ units.is_exact → negative ≡ is_minus p.sign → AreUnits (magnitude_mode mode negative) (magnitude Dec p) n units → IsDecimalReading mode p found
reading_from mode p negative n units found number format exact sign own =
    let rounded = magnitude_rounded mode negative _ _ _ own.to in
    record {
      number = with_sign negative (own.high * 2 ^ 64 + units.low);
      read = rw format (record { units = own.high * 2 ^ 64 + units.low; rounded = subst (λ s. IsRounded mode s ((magnitude Dec p).num * 10 ^ n) (magnitude Dec p).den (own.high * 2 ^ 64 + units.low)) sign rounded; value = ap (λ s. with_sign s (own.high * 2 ^ 64 + units.low)) sign });
      holds = rw number (record { high = own.high; value = refl; over = own.over });
      sign = rw number sign;
      exact = rw (exact, format) own.exact;
    }

-- ---- a short numeral
never_two : (e : Option Exponent) → is_power_of_two Dec e ≡ false
never_two None = refl
never_two (Some e) = refl

plain_same : (w f p : ℕ) → IsSameNumber (record { num = w * 10 ^ p + f; den = 10 ^ p }) (scaled (w * 10 ^ p + f) 1 10 (pos 0 -ℤ pos p))
plain_same w f zero = omega arith
plain_same w f (suc p) = let z : pos 0 -ℤ pos (suc p) ≡ negsuc p = omega (arith, ints) in rw z (omega arith)

pub short_counted : (p : Parts) (negative : Bool) (whole fraction places n : ℕ) (exponent : ℤ) (two : Bool) (count : Count) → exponent ≡ pos 0 → IsShortNumeral Dec p negative whole fraction places exponent two → IsCounted (record { num = whole * 10 ^ places + fraction; den = 10 ^ places }) n count → IsCounted (magnitude Dec p) n count
short_counted p negative whole fraction places n exponent two count none h counted =
    let plain : two ≡ false = h.separator ∙ never_two p.exponent in
    let value : magnitude Dec p ≡ scaled (whole * 10 ^ places + fraction) 1 10 (pos 0 -ℤ pos places) = h.value ∙ ap (placed_magnitude Dec (whole * 10 ^ places + fraction) places exponent) plain ∙ ap (λ x. scaled (whole * 10 ^ places + fraction) 1 10 (x -ℤ pos places)) none in
    rw value (counted_same (record { num = whole * 10 ^ places + fraction; den = 10 ^ places }) (scaled (whole * 10 ^ places + fraction) 1 10 (pos 0 -ℤ pos places)) n count (one-le-pow places 10 (omega arith)) (plain_same whole fraction places) counted)

-- ---- a scanned numeral
pub scanned_counted : (p : Parts) (negative : Bool) (w f : List ℕ) (shift n : ℕ) (count : Count) → IsScanned Dec p negative w f shift → IsCounted (spelled 10 w f 0) n count → IsCounted (magnitude Dec p) n count
scanned_counted p negative w f shift n count h counted =
    let none : shift ≡ 0 = omega (arith, h.small) in
    let same : IsSameNumber (spelled 10 w f 0) (magnitude Dec p) = subst (λ s. IsSameNumber (spelled 10 w f s) (magnitude Dec p)) none h.value in
    counted_same (spelled 10 w f 0) (magnitude Dec p) n count (one-le-pow (length f) 10 (omega arith)) same counted
