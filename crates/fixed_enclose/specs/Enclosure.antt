-- The tightest enclosure of a numeral's value by two values of a format.
use Rattle.std.specs.Prelude.{◌≡◌, ◌⊎◌, List, ℕ, ◌*◌, ◌^◌, ℤ, pos, ◌+ℤ◌, ◌-ℤ◌, ◌*ℤ◌, ◌≤ℤ◌, ◌<ℤ◌}
use Rattle.fixed_bits.specs.Formats.{FormatParts}
use Rattle.fixed_bits.specs.Ranges.{IsInRange, IsOutOfRange}
use Rattle.fixed_numeral.specs.Cause.{HasCause}
use Rattle.fixed_numeral.specs.Numeral.{Parts, HasNumeral, signed}
use Rattle.fixed_numeral.specs.Value.{magnitude}
use Rattle.fixed_numeral.specs.declared.error.ParseErrorKind.{ParseErrorKind}
use Rattle.fixed_numeral.specs.declared.error.ParseErrorKind.TheVariants.{Overflow}
use Rattle.fixed_numeral.specs.declared.radix.Radix.{Radix}

-- lo is the greatest whole number not above y / den, and hi the least not below it
pub record Encloses (y : ℤ) (den : ℕ) (lo hi : ℤ) : Type 0 where
  pub low : (lo *ℤ pos den) ≤ℤ y
  pub low_next : y <ℤ ((lo +ℤ pos 1) *ℤ pos den)
  pub high_before : ((hi -ℤ pos 1) *ℤ pos den) <ℤ y
  pub high : y ≤ℤ (hi *ℤ pos den)

-- the value of a numeral with these parts in ulps of 2^-f, times the denominator of its magnitude
abbrev pub in_ulps : Radix → Parts → ℕ → ℤ
in_ulps r p f = signed p.sign ((magnitude r p).num * 2 ^ f)

-- bytes are a numeral, and lo and hi are the bits of the two values of the format that enclose its value
pub record IsEnclosed (r : Radix) (bytes : List ℕ) (format : FormatParts) (lo hi : ℤ) : Type 0 where
  pub parts : Parts
  pub numeral : HasNumeral r bytes parts
  pub encloses : Encloses (in_ulps r parts format.frac) (magnitude r parts).den lo hi
  pub low : IsInRange format.signed format.width lo
  pub high : IsInRange format.signed format.width hi

-- bytes are a numeral, and one of the two values is out of the format's range
pub record IsUnenclosed (r : Radix) (bytes : List ℕ) (format : FormatParts) : Type 0 where
  pub parts : Parts
  pub numeral : HasNumeral r bytes parts
  pub lo : ℤ
  pub hi : ℤ
  pub encloses : Encloses (in_ulps r parts format.frac) (magnitude r parts).den lo hi
  pub out : IsOutOfRange format.signed format.width lo ⊎ IsOutOfRange format.signed format.width hi

-- kind says why there is no enclosure
abbrev pub IsRefusal : Radix → List ℕ → FormatParts → ParseErrorKind → Type 0
IsRefusal r bytes format kind = HasCause r bytes kind ⊎ ((kind ≡ Overflow) × IsUnenclosed r bytes format)
