-- Blocks of lines, and the texts in their lines.
use Rattle.std.specs.Prelude.{◌≡◌, ℕ, ◌+◌, ◌≤◌, ◌/◌, List, [], ◌∷◌, ◌++◌, ℤ, pos, false, length, codes}
use Rattle.fixed_bits.specs.Images.{IsWrapped}
use Rattle.fixed_write.specs.Texts.{last_digits}

-- a label, a text and a newline
unfoldable pub line : List ℕ → List ℕ → List ℕ
line label text = label ++ (text ++ 10 ∷ [])

-- a text with the property `Is`, of at most `most` bytes, was appended
pub record Appends (Is : List ℕ → Type 0) (most : ℕ) (before after : List ℕ) : Type 0 where
  pub text : List ℕ
  pub is_text : Is text
  pub appended : after ≡ before ++ text
  pub short : length text ≤ most

-- `0x` and `n` bits in hexadecimal, four to a digit from the lowest on
unfoldable pub hex_text : ℕ → ℕ → List ℕ
hex_text n word = codes "0x" ++ last_digits 16 false ((n + 3) / 4) word

-- the text is the `n` bits of `v` in two's complement, in hexadecimal
pub record IsHexText (n : ℕ) (v : ℤ) (text : List ℕ) : Type 0 where
  pub word : ℕ
  pub is_word : IsWrapped false n v (pos word)
  pub text_is : text ≡ hex_text n word
