-- What the views of a numeral hold.
use Rattle.std.specs.Prelude.{◌≡◌, ℕ, ◌<◌, Bool, List, []}
use Rattle.std.specs.Int.Digits.{AllBelowBase}
use Rattle.fixed_numeral.specs.declared.radix.Radix.{Radix}
use Rattle.fixed_numeral.specs.declared.radix.Radix.TheVariants.{Bin, Oct, Dec, Hex}
use Rattle.fixed_numeral.specs.Numeral.{Parts, base, is_minus}
use Rattle.fixed_numeral.specs.Value.{magnitude}
use Rattle.fixed_numeral.specs.Spelled.{spelled, IsSameNumber}
use Rattle.fixed_numeral.specs.Place.{NoLeadingZero, NoTrailingZero}

-- how far one digit moves the point, in steps of a `p` exponent; 1 if the radix has no `p`
abbrev pub exponent_unit : Radix → ℕ
exponent_unit Bin = 1
exponent_unit Oct = 3
exponent_unit Dec = 1
exponent_unit Hex = 4

-- the sign, the digits before and after the point, and the bits are those of the numeral
pub record IsScanned (r : Radix) (p : Parts) (neg : Bool) (whole fraction : List ℕ) (bits : ℕ) : Type 0 where
  pub sign : neg ≡ is_minus p.sign
  pub value : IsSameNumber (spelled (base r) whole fraction bits) (magnitude r p)
  pub leading : NoLeadingZero whole
  pub trailing : NoTrailingZero fraction
  pub none : (magnitude r p).num ≡ 0 → (whole ≡ []) × (fraction ≡ [])
  pub whole_digits : AllBelowBase (base r) whole
  pub fraction_digits : AllBelowBase (base r) fraction
  pub small : bits < exponent_unit r
