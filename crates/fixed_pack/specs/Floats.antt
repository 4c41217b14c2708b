-- Floats that become words of a format, and words that become floats.
use Rattle.std.specs.Prelude.{◌≡◌, ◌^◌, ◌<◌, ◌≤◌, ℕ, ℤ, List, codes, Option, None}
use Rattle.fixed_bits.specs.Images.{IsImage}
use Rattle.fixed_bits.specs.Ranges.{IsOutOfRange, IsWidth}
use Rattle.fixed_bits.specs.declared.format.Policy.TheVariants.{Checked}
use Rattle.fixed_command.specs.Hex.{word_of}
use Rattle.fixed_float.specs.Floats.{IsFinite, IsReadFloat}
use Rattle.fixed_float.specs.Nearest.{IsNearestFloat}
use Rattle.fixed_float.specs.declared.layout.FloatLayout.{FloatLayout}
use Rattle.fixed_float.specs.declared.layout.FloatLayout.TheVariants.{Binary32, Binary64}
use Rattle.fixed_pack.specs.Word.{IsBitsOf, bytes_of, number_of, word_bytes}
use Rattle.fixed_pack.specs.declared.float_words.FloatWords.{FloatWords}
use Rattle.fixed_pack.specs.declared.float_words.WordRefusal.{WordRefusal}
use Rattle.fixed_pack.specs.declared.float_words.WordRefusal.TheVariants.{NotFinite, Overflow, TooWide}
use Rattle.fixed_pack.specs.declared.word_floats.WordFloats.{WordFloats}

-- the number of bytes of a float
abbrev pub float_size : FloatLayout → ℕ
float_size Binary32 = 4
float_size Binary64 = 8

abbrev pub refusal_text : WordRefusal → List ℕ
refusal_text NotFinite = codes "not a finite number"
refusal_text Overflow = codes "overflow"
refusal_text TooWide = codes "word is wider than the format"

-- ---- floats
-- the float is finite, and these bits are the image of its read number
pub record AreFloatBits (s : FloatWords) (float : ℕ) (bits : ℤ) : Type 0 where
  pub finite : IsFinite s.layout float
  pub number : ℤ
  pub read : IsReadFloat s.mode s.layout float s.format.frac number
  pub image : IsImage s.policy s.format.signed s.format.width number bits

-- the number of the word that the float becomes
pub record IsFloatNumber (s : FloatWords) (float word : ℕ) : Type 0 where
  pub bits : ℤ
  pub are : AreFloatBits s float bits
  pub word_is : word ≡ word_of s.format.width bits

-- the float is finite, and its read number has no image
pub record Overflows (s : FloatWords) (float : ℕ) : Type 0 where
  pub finite : IsFinite s.layout float
  pub number : ℤ
  pub read : IsReadFloat s.mode s.layout float s.format.frac number
  pub checked : s.policy ≡ Checked
  pub out : IsOutOfRange s.format.signed s.format.width number

abbrev pub IsFloatRefused : FloatWords → ℕ → WordRefusal → Type 0
IsFloatRefused s float NotFinite = ¬ IsFinite s.layout float
IsFloatRefused s float Overflow = Overflows s float
IsFloatRefused s float TooWide = ⊥

-- the bytes of a float become those of a word, with no cause for a refusal
pub record IsFloatWord (s : FloatWords) (bytes made : List ℕ) (cause : Option WordRefusal) : Type 0 where
  pub clean : cause ≡ None
  pub bits : ℤ
  pub are : AreFloatBits s (number_of s.endian bytes) bits
  pub word_is : made ≡ word_bytes s.endian s.format bits
  pub width : IsWidth s.format.width

abbrev pub IsWordNot : FloatWords → List ℕ → WordRefusal → Type 0
IsWordNot s bytes why = IsFloatRefused s (number_of s.endian bytes) why

-- ---- words
-- the bytes of a word become those of the float nearest to its number, with no cause for a refusal
pub record IsWordFloat (s : WordFloats) (bytes made : List ℕ) (cause : Option WordRefusal) : Type 0 where
  pub clean : cause ≡ None
  pub bits : ℤ
  pub are : IsBitsOf s.format (number_of s.endian bytes) bits
  pub float : ℕ
  pub few : float < 256 ^ float_size s.layout
  pub nearest : IsNearestFloat s.layout bits s.format.frac float
  pub float_is : made ≡ bytes_of s.endian (float_size s.layout) float

-- the word has a bit above the width
abbrev pub IsWordRefused : WordFloats → List ℕ → WordRefusal → Type 0
IsWordRefused s bytes NotFinite = ⊥
IsWordRefused s bytes Overflow = ⊥
IsWordRefused s bytes TooWide = 2 ^ s.format.width ≤ number_of s.endian bytes
