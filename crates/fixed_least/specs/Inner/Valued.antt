-- The value found for one line.
use Rattle.std.specs.Prelude.{ℕ, List, Option, Some, None}
use Rattle.fixed_bits.specs.Formats.{FormatParts, IsTypeFormat}
use Rattle.fixed_numeral.specs.Numeral.{Parts, HasNumeral}
use Rattle.fixed_numeral.specs.declared.radix.Radix.{Radix}
use Rattle.fixed_least.specs.Holding.{Holds}
use Rattle.fixed_least.specs.Inner.Exact.{HasUlps, IsExact}
use Rattle.fixed_least.specs.declared.exact.Exact.{Exact}

-- the value of a numeral with these parts; if it is None, no format holds the numeral
abbrev pub IsValueOf : Radix → Parts → Option Exact → Type 0
IsValueOf r p None = (f : FormatParts) → IsTypeFormat f.width f.frac → ¬ Holds r p f
IsValueOf r p (Some e) = IsExact r p e.negative e.ulps

-- bytes are a numeral with this value
pub record IsExactOf (r : Radix) (bytes : List ℕ) (value : Option Exact) : Type 0 where
  pub parts : Parts
  pub numeral : HasNumeral r bytes parts
  pub value_of : IsValueOf r parts value

-- a format has the value; no format has None
abbrev pub HasValue : FormatParts → Option Exact → Type 0
HasValue f None = ⊥
HasValue f (Some e) = HasUlps f e.negative e.ulps
