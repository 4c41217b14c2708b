-- Numbers as whole ulps and a lost fraction.
use Rattle.std.specs.Prelude.{◌≡◌, ℕ, ◌+◌, ◌*◌, ◌^◌, ◌<◌, ◌↔◌, IsTrue, false, List, length}
use Rattle.std.specs.Int.Digits.{number_from_digits, AllBelowBase}
use Rattle.fixed_bits.specs.LostFractions.{IsLostFraction}
use Rattle.fixed_bits.specs.Rounded.{IsRounded}
use Rattle.fixed_numeral.specs.Numeral.{base}
use Rattle.fixed_numeral.specs.Place.{NoLeadingZero, NoTrailingZero}
use Rattle.fixed_numeral.specs.Scanned.{exponent_unit}
use Rattle.fixed_numeral.specs.Value.{Fraction}
use Rattle.fixed_numeral.specs.declared.radix.Radix.{Radix}
use Rattle.fixed_read.specs.Reading.{IsMultipleOf}
use Rattle.fixed_read.specs.declared.magnitude.Ulps.{Ulps}
use Rattle.fixed_bits.specs.declared.mode.ReadMode.{ReadMode}
use Rattle.fixed_bits.specs.declared.rounding.LostFraction.{LostFraction}

-- num / den is p and the lost fraction
pub record IsSettled (num den p : ℕ) (lost : LostFraction) : Type 0 where
  pub rest : ℕ
  pub split : num ≡ p * den + rest
  pub left : IsLostFraction lost rest den

-- num / den is q ulps of 2^-frac and the lost fraction
pub record IsSplitUlps (num den frac q : ℕ) (lost : LostFraction) : Type 0 where
  pub rest : ℕ
  pub unit : ℕ
  pub some : 0 < unit
  pub split : num * 2 ^ frac * unit ≡ (q * unit + rest) * den
  pub left : IsLostFraction lost rest unit

-- num / den is q ulps of 2^-frac and rest / unit of an ulp
pub record IsShare (num den frac q rest unit : ℕ) : Type 0 where
  pub small : rest < unit
  pub split : num * 2 ^ frac * unit ≡ (q * unit + rest) * den

-- 0.DS is p ulps of 2^-t and the lost fraction
pub record IsFractionUlps (b : ℕ) (ds : List ℕ) (t p : ℕ) (lost : LostFraction) : Type 0 where
  pub ulps : IsSplitUlps (number_from_digits b ds) (b ^ length ds) t p lost
  pub small : p < 2 ^ t

-- ulps is number rounded to ulps of 2^-frac: the lowest 64 bits, whether there are more, and whether it is exact
pub record IsMagnitude (mode : ReadMode) (number : Fraction) (frac : ℕ) (ulps : Ulps) : Type 0 where
  pub high : ℕ
  pub to : IsRounded mode false (number.num * 2 ^ frac) number.den (high * 2 ^ 64 + ulps.low)
  pub over : IsTrue ulps.has_high_bits ↔ (0 < high)
  pub exact : IsTrue ulps.is_exact ↔ IsMultipleOf number.den (number.num * 2 ^ frac)

-- the digits before and after the point, once the point is placed
pub record IsSplitNumeral (r : Radix) (whole fraction : List ℕ) (bits : ℕ) : Type 0 where
  pub whole_digits : AllBelowBase (base r) whole
  pub leading : NoLeadingZero whole
  pub fraction_digits : AllBelowBase (base r) fraction
  pub trailing : NoTrailingZero fraction
  pub small : bits < exponent_unit r
