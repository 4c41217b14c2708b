-- Values in ulps of 2^-64: each value of a format is a whole number of them.
use Rattle.std.specs.Prelude.{◌≡◌, ◌-◌, ◌*◌, ◌^◌, ℕ, Bool}
use Rattle.fixed_bits.specs.Formats.{FormatParts}
use Rattle.fixed_bits.specs.Ranges.{IsInRange}
use Rattle.fixed_numeral.specs.Numeral.{Parts, is_minus}
use Rattle.fixed_numeral.specs.Value.{magnitude}
use Rattle.fixed_numeral.specs.declared.radix.Radix.{Radix}
use Rattle.fixed_bits.specs.Numbers.{with_sign}

-- a numeral with these parts is worth this many ulps of 2^-64, with this sign
pub record IsExact (r : Radix) (p : Parts) (negative : Bool) (ulps : ℕ) : Type 0 where
  pub sign : negative ≡ is_minus p.sign
  pub exact : (magnitude r p).num * 2 ^ 64 ≡ ulps * (magnitude r p).den

-- a format has a value of this many ulps of 2^-64, with this sign
pub record HasUlps (f : FormatParts) (negative : Bool) (ulps : ℕ) : Type 0 where
  pub count : ℕ
  pub split : ulps ≡ count * 2 ^ (64 - f.frac)
  pub in_range : IsInRange f.signed f.width (with_sign negative count)
