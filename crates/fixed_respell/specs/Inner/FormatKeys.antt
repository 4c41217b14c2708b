-- The keys of words.
use Rattle.std.specs.Prelude.{◌≡◌, ℕ, ◌+◌, ◌*◌, ◌/◌, ◌%◌, ◌^◌, true, List, length, drop}
use Rattle.std.specs.Simd.Lanes.{number_l}
use Rattle.fixed_bits.specs.Formats.{IsTypeFormat}
use Rattle.fixed_respell.specs.Words.{format_text}

-- the bytes after the first as a number, the first of them in the lowest place, and the word's length in the sixth byte
abbrev pub word_key : List ℕ → ℕ
word_key word = number_l 256 (drop 1 word) + length word * 2 ^ 40

-- the word of the signed format with this width and fraction length; the word of the unsigned one has the same key
abbrev pub counts_word : ℕ → ℕ → List ℕ
counts_word width frac = format_text (record { signed = true; width = width; frac = frac })

-- the eighth byte of an entry is the width of a format, the seventh its fraction length, and the others are its words'
-- key
pub record IsEntry (entry : ℕ) : Type 0 where
  pub format : IsTypeFormat (entry / 2 ^ 56) (entry / 2 ^ 48 % 256)
  pub key : entry % 2 ^ 48 ≡ word_key (counts_word (entry / 2 ^ 56) (entry / 2 ^ 48 % 256))
