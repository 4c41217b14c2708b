-- A text as it is shown on one line.
use Rattle.std.specs.Prelude.{◌≡◌, ◌⊎◌, ◌==◌, ◌&&◌, ◌+◌, ◌/◌, ◌%◌, ◌<◌, ◌≤◌, ◌++◌, ℕ, zero, suc, Bool, false, List}
use Rattle.std.specs.Prelude.{[], ◌∷◌}
use Rattle.std.specs.Prelude.{IsUtf8, codes, drop, if◌then◌else◌, length, max, nat_lt, take}
use Rattle.std.specs.Char.{is_ascii_control}

-- a digit in base 16
abbrev pub hex_digit : ℕ → ℕ
hex_digit n = if nat_lt n 10 then 48 + n else 87 + n

-- how many bytes a character of UTF-8 has by its first byte; 0 if no character begins with it
abbrev pub lead_width : List ℕ → ℕ
lead_width [] = 0
lead_width (byte ∷ bytes) = if nat_lt byte 128 then 1 else if nat_lt byte 192 then 0 else if nat_lt byte 224 then 2
    else if nat_lt byte 240 then 3 else 4

-- the bytes begin with a character of this width
pub record IsCharacter (bytes : List ℕ) (width : ℕ) : Type 0 where
  pub some : 0 < width
  pub width_is : width ≡ lead_width bytes
  pub within : width ≤ length bytes
  pub valid : IsUtf8 (take width bytes)

-- the width of the character that the bytes begin with, or 0
abbrev pub IsWidth : List ℕ → ℕ → Type 0
IsWidth bytes width = IsCharacter bytes width ⊎ ((width ≡ 0) × ¬ IsCharacter bytes (lead_width bytes))

-- whether a character is a control character
abbrev pub is_control : List ℕ → Bool
is_control [] = false
is_control (byte ∷ []) = is_ascii_control byte
is_control (first ∷ second ∷ []) = (first == 194) && (nat_lt 127 second && nat_lt second 160)
is_control (first ∷ second ∷ third ∷ bytes) = false

-- a byte that begins no character, by its two digits
abbrev pub escaped : ℕ → List ℕ
escaped byte = 92 ∷ 120 ∷ hex_digit (byte / 16) ∷ hex_digit (byte % 16) ∷ []

-- the first bytes as they are shown: a character of this width, or if it is 0 a byte that begins none
abbrev pub shown : ℕ → List ℕ → List ℕ
shown zero [] = []
shown zero (byte ∷ bytes) = escaped byte
shown (suc width) first = if is_control first then codes "?" else first

-- `text` shows the first character of the bytes, and `rest` are the bytes after it
pub record IsFirstShown (bytes text rest : List ℕ) : Type 0 where
  pub width : ℕ
  pub is : IsWidth bytes width
  pub text_is : text ≡ shown width (take (max width 1) bytes)
  pub rest_is : rest ≡ drop (max width 1) bytes

-- `text` shows the bytes, character by character, of which there are at most `most`
unfoldable pub ShownWithin : ℕ → List ℕ → List ℕ → Type 0
ShownWithin most [] text = text ≡ []
ShownWithin zero (byte ∷ bytes) text = ⊥
ShownWithin (suc most) (byte ∷ bytes) text = (first rest more : List ℕ) × IsFirstShown (byte ∷ bytes) first rest
    × ShownWithin most rest more × (text ≡ first ++ more)

-- `text` shows the bytes
abbrev pub IsShown : List ℕ → List ℕ → Type 0
IsShown bytes text = (most : ℕ) × ShownWithin most bytes text
