-- Words of bits that are packed as those bits.
use Rattle.std.specs.Prelude.{◌≡◌, ℕ, ℤ, List}
use Rattle.fixed_bits.specs.Ranges.{IsWidth}
use Rattle.fixed_command.specs.Convert.{without_return}
use Rattle.fixed_show.specs.WordText.{HasWordFault, IsWord}
use Rattle.fixed_show.specs.declared.words.WordFault.{WordFault}
use Rattle.fixed_pack.specs.Word.{word_bytes}
use Rattle.fixed_pack.specs.declared.bits.PackBits.{PackBits}

-- the line without one carriage return at its end is a word of the format, and `word` is that of its bits
pub record AreBitsPacked (s : PackBits) (line word : List ℕ) : Type 0 where
  pub width : IsWidth s.format.width
  pub bits : ℤ
  pub read : IsWord s.radix s.format (without_return line) bits
  pub word_is : word ≡ word_bytes s.endian s.format bits

-- the line is not a word of the format, and fault says why
abbrev pub AreBitsRefused : PackBits → List ℕ → WordFault → Type 0
AreBitsRefused s line fault = HasWordFault s.radix s.format (without_return line) fault
