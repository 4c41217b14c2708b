-- Raw words: the bits of a number as bytes.
use Rattle.std.specs.Prelude.{◌≡◌, ℕ, zero, suc, ◌+◌, ◌*◌, ◌/◌, ◌%◌, ℤ, List, [], ◌∷◌, ◌++◌, reverse}
use Rattle.fixed_bits.specs.Formats.{FormatParts}
use Rattle.fixed_bits.specs.Ranges.{IsInRange, IsWidth}
use Rattle.fixed_command.specs.Hex.{word_of}
use Rattle.fixed_pack.specs.declared.endian.Endian.{Endian}
use Rattle.fixed_pack.specs.declared.endian.Endian.TheVariants.{Big, Little}

-- the number of bytes of a word of this width in bits
abbrev pub word_length : ℕ → ℕ
word_length width = (width + 7) / 8

-- the last bytes of a number, the least significant first
unfoldable pub low_bytes : ℕ → ℕ → List ℕ
low_bytes zero n = []
low_bytes (suc k) n = n % 256 ∷ low_bytes k (n / 256)

-- the last bytes of a number, in an order
abbrev pub bytes_of : Endian → ℕ → ℕ → List ℕ
bytes_of Little count n = low_bytes count n
bytes_of Big count n = reverse (low_bytes count n)

-- the number that bytes stand for, the least significant first
unfoldable pub low_number : List ℕ → ℕ
low_number [] = 0
low_number (b ∷ bs) = b + 256 * low_number bs

-- the number that bytes stand for, in an order
abbrev pub number_of : Endian → List ℕ → ℕ
number_of Little bytes = low_number bytes
number_of Big bytes = low_number (reverse bytes)

-- the word of bits of a format: two's complement, and zeros above the width
abbrev pub word_bytes : Endian → FormatParts → ℤ → List ℕ
word_bytes endian f bits = bytes_of endian (word_length f.width) (word_of f.width bits)

-- n is the word of these bits of the format
pub record IsBitsOf (f : FormatParts) (n : ℕ) (bits : ℤ) : Type 0 where
  pub width : IsWidth f.width
  pub in_range : IsInRange f.signed f.width bits
  pub word_is : word_of f.width bits ≡ n

-- words one after another
abbrev pub joined : List (List ℕ) → List ℕ
joined [] = []
joined (word ∷ words) = word ++ joined words
