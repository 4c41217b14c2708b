-- Numbers as whole units and a lost fraction.
use Rattle.std.specs.Prelude.{◌≡◌, ◌↔◌, ℕ, ◌+◌, ◌*◌, ◌^◌, ◌<◌, false, IsTrue, List}
use Rattle.std.specs.Int.Digits.{AllBelowBase}
use Rattle.fixed_bits.specs.LostFractions.{IsLostFraction}
use Rattle.fixed_bits.specs.Rounded.{IsRounded}
use Rattle.fixed_bits.specs.declared.mode.ReadMode.{ReadMode}
use Rattle.fixed_decimal.specs.Decimals.{IsWhole}
use Rattle.fixed_decimal.specs.declared.count.Count.{Count}
use Rattle.fixed_decimal.specs.declared.count.Units.{Units}
use Rattle.fixed_numeral.specs.Place.{NoLeadingZero, NoTrailingZero}
use Rattle.fixed_numeral.specs.Value.{Fraction}

-- number is a multiple of 2^64 units of 10^-n, plus the counted units and rest / unit of one
pub record IsCounted (number : Fraction) (n : ℕ) (count : Count) : Type 0 where
  pub high : ℕ
  pub rest : ℕ
  pub unit : ℕ
  pub some : 0 < unit
  pub split : number.num * 10 ^ n * unit ≡ ((high * 2 ^ 64 + count.units) * unit + rest) * number.den
  pub left : IsLostFraction count.lost rest unit
  pub over : IsTrue count.is_over ↔ (0 < high)

-- units is number rounded to units of 10^-n: the lowest 64 bits, whether there are more, and whether it is exact
pub record AreUnits (mode : ReadMode) (number : Fraction) (n : ℕ) (units : Units) : Type 0 where
  pub high : ℕ
  pub to : IsRounded mode false (number.num * 10 ^ n) number.den (high * 2 ^ 64 + units.low)
  pub over : IsTrue units.has_high_bits ↔ (0 < high)
  pub exact : IsTrue units.is_exact ↔ IsWhole (number.num * 10 ^ n) number.den

-- the digits before and after the point, once the point is placed
pub record IsSplitDecimal (whole fraction : List ℕ) : Type 0 where
  pub whole_digits : AllBelowBase 10 whole
  pub leading : NoLeadingZero whole
  pub fraction_digits : AllBelowBase 10 fraction
  pub trailing : NoTrailingZero fraction
