-- A numeral that was read as a short decimal.
use Rattle.std.specs.Prelude.{◌≡◌, ℕ, ◌^◌, ◌<◌, ◌≤◌, List}
use Rattle.fixed_numeral.specs.Numeral.{HasNumeral, IsNumeral, Parts}
use Rattle.fixed_numeral.specs.PartNumbers.{IsShortNumeral}
use Rattle.fixed_numeral.specs.declared.radix.Radix.{Radix}
use Rattle.fixed_numeral.specs.declared.radix.Radix.TheVariants.{Dec}
use Rattle.fixed_numeral.specs.declared.short.ShortNumeral.{ShortNumeral}

-- bytes are a decimal numeral, and n holds the numbers of its parts
pub record IsShortRead (r : Radix) (bytes : List ℕ) (n : ShortNumeral) : Type 0 where
  pub decimal : r ≡ Dec
  pub numeral : IsNumeral Dec bytes
  pub parts : (p : Parts) → HasNumeral Dec bytes p
      → IsShortNumeral Dec p n.negative n.whole n.fraction n.places n.exponent n.scales_by_two
  pub fraction : n.fraction < 10 ^ n.places
  pub whole : n.whole < 10 ^ 16
  pub places : n.places ≤ 27
