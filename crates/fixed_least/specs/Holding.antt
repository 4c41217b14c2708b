-- The formats that hold a list of numerals, and the least of them.
use Rattle.std.specs.Prelude.{◌≡◌, ◌+◌, ◌*◌, ◌^◌, ℕ, List, [], ◌∷◌, ◌++◌, length}
use Rattle.fixed_bits.specs.Formats.{FormatParts, IsTypeFormat}
use Rattle.fixed_bits.specs.Ranges.{IsInRange}
use Rattle.fixed_numeral.specs.Numeral.{Parts, HasNumeral, IsNumeral, signed}
use Rattle.fixed_numeral.specs.Value.{magnitude}
use Rattle.fixed_numeral.specs.declared.radix.Radix.{Radix}
use Rattle.fixed_bits.specs.Order.{IsBefore}

-- a format holds a numeral with these parts: its value is a whole number of ulps, and in range
pub record Holds (r : Radix) (p : Parts) (f : FormatParts) : Type 0 where
  pub count : ℕ
  pub exact : (magnitude r p).num * 2 ^ f.frac ≡ count * (magnitude r p).den
  pub in_range : IsInRange f.signed f.width (signed p.sign count)

-- a line is a numeral, and the format holds it
pub record HoldsLine (r : Radix) (f : FormatParts) (line : List ℕ) : Type 0 where
  pub parts : Parts
  pub numeral : HasNumeral r line parts
  pub holds : Holds r parts f

-- a line is a numeral, and the format does not hold it
pub record RefusesLine (r : Radix) (f : FormatParts) (line : List ℕ) : Type 0 where
  pub parts : Parts
  pub numeral : HasNumeral r line parts
  pub refuses : Holds r parts f → ⊥

-- each line is a numeral that the format holds
abbrev pub AllHold : Radix → FormatParts → List (List ℕ) → Type 0
AllHold r f [] = Unit {0}
AllHold r f (line ∷ lines) = HoldsLine r f line × AllHold r f lines

abbrev pub AllNumerals : Radix → List (List ℕ) → Type 0
AllNumerals r [] = Unit {0}
AllNumerals r (line ∷ lines) = IsNumeral r line × AllNumerals r lines

-- `place` is the number, from 1, of the first line that the format does not hold
pub record IsFirstRefused (r : Radix) (f : FormatParts) (lines : List (List ℕ)) (place : ℕ) : Type 0 where
  pub before : List (List ℕ)
  pub line : List ℕ
  pub after : List (List ℕ)
  pub split : lines ≡ before ++ line ∷ after
  pub held : AllHold r f before
  pub refused : RefusesLine r f line
  pub place_is : place ≡ length before + 1

-- f is the first format in the order that holds each line
pub record IsLeastFormat (r : Radix) (lines : List (List ℕ)) (f : FormatParts) : Type 0 where
  pub is_format : IsTypeFormat f.width f.frac
  pub holds : AllHold r f lines
  pub least : (g : FormatParts) → IsTypeFormat g.width g.frac → IsBefore g f → AllHold r g lines → ⊥
