-- Words of bits that are packed.
use Rattle.std.proofs.Common.{ℕ, ℤ, List, inl, inr}
use Rattle.fixed_bits.specs.Formats.{FormatParts}
use Rattle.fixed_bits.specs.Ranges.{IsInRange}
use Rattle.fixed_numeral.specs.declared.radix.Radix.{Radix}
use Rattle.fixed_show.specs.WordText.{IsWord}

-- the bits of a word are in the range of its format
pub word_in_range : (bare : Radix) (f : FormatParts) (text : List ℕ) (v : ℤ) → IsWord bare f text v → IsInRange f.signed f.width v
word_in_range bare f text v (inl plain) = plain.is.in_range
word_in_range bare f text v (inr signed) = signed.in_range
