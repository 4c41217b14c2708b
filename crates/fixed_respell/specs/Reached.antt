-- The bits that are reached from a numeral through two formats.
use Rattle.std.specs.Prelude.{◌≡◌, ◌⊎◌, ◌↔◌, List, ℕ, ℤ, pos, Bool, true, false, IsTrue}
use Rattle.fixed_bits.specs.Formats.{FormatParts}
use Rattle.fixed_bits.specs.Ranges.{IsOutOfRange}
use Rattle.fixed_bits.specs.Images.{IsImage, IsOutOfRangeBy}
use Rattle.fixed_bits.specs.Down.{IsDown}
use Rattle.fixed_bits.specs.declared.format.Policy.{Policy}
use Rattle.fixed_bits.specs.declared.format.Policy.TheVariants.{Checked}
use Rattle.fixed_bits.specs.declared.mode.ReadMode.{ReadMode}
use Rattle.fixed_numeral.specs.Cause.{HasCause}
use Rattle.fixed_numeral.specs.Numeral.{Parts, HasNumeral}
use Rattle.fixed_numeral.specs.declared.error.ParseErrorKind.{ParseErrorKind}
use Rattle.fixed_numeral.specs.declared.error.ParseErrorKind.TheVariants.{Overflow}
use Rattle.fixed_numeral.specs.declared.radix.Radix.{Radix}
use Rattle.fixed_read.specs.Reading.{IsReadNumber}
use Rattle.fixed_respell.specs.declared.respelling.Bits.{Bits}
use Rattle.fixed_respell.specs.declared.respelling.Bits.TheVariants.{Signed, Unsigned}

-- `number` is the read number of a numeral with these parts, `in_source` its image in the source, `moved` that image
-- rounded down (floor) to the target's fraction length, and `bits` the image of `moved` in the target; the flag says
-- whether `number` or `moved` was out of the policy's range
pub record IsReached (mode : ReadMode) (r : Radix) (p : Parts) (policy : Policy) (source target : FormatParts)
    (bits : ℤ) (overflowed : Bool) : Type 0 where
  pub number : ℤ
  pub in_source : ℤ
  pub moved : ℤ
  pub read : IsReadNumber mode r p source.frac number
  pub source_image : IsImage policy source.signed source.width number in_source
  pub down : IsDown in_source source.frac target.frac moved
  pub target_image : IsImage policy target.signed target.width moved bits
  pub flag : IsTrue overflowed ↔ (IsOutOfRangeBy policy source.signed source.width number
      ⊎ IsOutOfRangeBy policy target.signed target.width moved)

-- under Checked, the read number is out of the source's range, or, rounded down to the target's fraction length, out of
-- the target's range, so it has no image there and nothing is reached
pub record IsOverflowed (mode : ReadMode) (r : Radix) (p : Parts) (policy : Policy)
    (source target : FormatParts) : Type 0 where
  pub number : ℤ
  pub moved : ℤ
  pub checked : policy ≡ Checked
  pub read : IsReadNumber mode r p source.frac number
  pub down : IsDown number source.frac target.frac moved
  pub out : IsOutOfRange source.signed source.width number ⊎ IsOutOfRange target.signed target.width moved

-- bytes are a numeral, and these bits and this flag are reached from it
pub record IsRespelled (mode : ReadMode) (r : Radix) (bytes : List ℕ) (policy : Policy) (source target : FormatParts)
    (bits : ℤ) (overflowed : Bool) : Type 0 where
  pub parts : Parts
  pub numeral : HasNumeral r bytes parts
  pub reached : IsReached mode r parts policy source target bits overflowed

-- bytes are a numeral, and nothing is reached from it
pub record OverflowsOn (mode : ReadMode) (r : Radix) (bytes : List ℕ) (policy : Policy)
    (source target : FormatParts) : Type 0 where
  pub parts : Parts
  pub numeral : HasNumeral r bytes parts
  pub overflowed : IsOverflowed mode r parts policy source target

-- kind says why no bits are reached: bytes are not a numeral, or nothing is reached from it
abbrev pub IsRefusal : ReadMode → Radix → List ℕ → Policy → FormatParts → FormatParts → ParseErrorKind → Type 0
IsRefusal mode r bytes policy source target kind = HasCause r bytes kind
    ⊎ ((kind ≡ Overflow) × OverflowsOn mode r bytes policy source target)

-- the number that the bits hold
abbrev pub number_of : Bits → ℤ
number_of (Signed n) = n
number_of (Unsigned n) = pos n

-- whether bits are those of a signed format
abbrev pub is_signed : Bits → Bool
is_signed (Signed _) = true
is_signed (Unsigned _) = false
