-- The taps of a filter.
use Rattle.std.specs.Prelude.{◌≡◌, ℕ, ◌*◌, ◌^◌, ◌≤◌, List, ℤ}
use Rattle.fixed_bits.specs.Nearest.{distance}
use Rattle.fixed_numeral.specs.Numeral.{Parts, HasNumeral, signed}
use Rattle.fixed_numeral.specs.Value.{magnitude}
use Rattle.fixed_numeral.specs.declared.radix.Radix.TheVariants.{Dec}

-- tap counts steps of 2^-frac and is at most half a step from the decimal number that text spells
pub record IsTap (frac : ℕ) (text : List ℕ) (tap : ℤ) : Type 0 where
  pub parts : Parts
  pub spelled : HasNumeral Dec text parts
  pub steps : ℕ
  pub near : 2 * distance ((magnitude Dec parts).num * 2 ^ frac) (steps * (magnitude Dec parts).den)
      ≤ (magnitude Dec parts).den
  pub tap_is : tap ≡ signed parts.sign steps
