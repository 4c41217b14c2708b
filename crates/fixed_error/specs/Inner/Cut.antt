-- Numbers cut to whole ones.
use Rattle.std.specs.Prelude.{◌≡◌, ℕ, ◌+◌, ◌*◌, ◌^◌, ◌<◌, ◌≤◌, Bool, true, false, if◌then◌else◌}
use Rattle.fixed_numeral.specs.Numeral.{Parts}
use Rattle.fixed_numeral.specs.Value.{magnitude}
use Rattle.fixed_numeral.specs.declared.radix.Radix.{Radix}
use Rattle.fixed_error.specs.Cut.{cut_parts}
use Rattle.fixed_error.specs.declared.cut.CutError.{CutError}

-- num / den is `whole`, or between that and the next whole number if there is more
pub record IsCut (num den whole : ℕ) (is_more : Bool) : Type 0 where
  pub at_least : whole * den ≤ num
  pub next : num < (whole + 1) * den
  pub exact : is_more ≡ false → num ≡ whole * den
  pub more : is_more ≡ true → whole * den < num

-- a numeral is `rest` parts above a whole number of ulps of 2^-f, or between that and the next part if there is more
pub record IsCutAbove (r : Radix) (p : Parts) (f rest : ℕ) (is_more : Bool) : Type 0 where
  pub ulps : ℕ
  pub cut : IsCut ((magnitude r p).num * 2 ^ f * cut_parts r) (magnitude r p).den (ulps * cut_parts r + rest) is_more
  pub below : rest < cut_parts r

-- the parts on each side with the sign of a numeral
pub record IsSigned (negative : Bool) (over under : ℕ) (e : CutError) : Type 0 where
  pub above : e.above ≡ (if negative then under else over)
  pub below : e.below ≡ (if negative then over else under)
