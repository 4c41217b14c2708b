-- The line of a report on standard error.
use Rattle.std.specs.Prelude.{◌≡◌, ◌⊎◌, ◌==◌, ◌+◌, ◌≤◌, ◌++◌, ℕ, zero, suc, List, [], ◌∷◌, None, Option, Some, codes}
use Rattle.std.specs.Prelude.{drop, if◌then◌else◌, length, max, nat_lt, take}
use Rattle.std.specs.Fmt.{decimal}
-- How a character is shown, and a digit in base 16.
pub use Rattle.line_rejects.specs.Shown.{IsWidth, hex_digit, shown}

-- the line with a text after it, if there is room for this and a newline in 1024 bytes; else the line
unfoldable pub pushed : List ℕ → List ℕ → List ℕ
pushed line text = if nat_lt (length line + length text) 1024 then line ++ text else line

-- `after` is the line with as many of the first characters of the bytes, each that fits
unfoldable pub Shows : ℕ → List ℕ → List ℕ → List ℕ → Type 0
Shows zero bytes line after = after ≡ line
Shows (suc most) [] line after = after ≡ line
Shows (suc most) (byte ∷ bytes) line after = (width : ℕ) × IsWidth (byte ∷ bytes) width
    × Shows most (drop (max width 1) (byte ∷ bytes))
    (pushed line (shown width (take (max width 1) (byte ∷ bytes)))) after

-- the bytes up to the first newline
unfoldable pub first_line : List ℕ → List ℕ
first_line [] = []
first_line (byte ∷ bytes) = if byte == 10 then [] else byte ∷ first_line bytes

-- a part of a report: a text, and how many of its first characters are shown
pub record Part : Type 0 where
  pub text : List ℕ
  pub most : ℕ

-- a text up to its first newline, or as much of it
abbrev pub shortened : ℕ → List ℕ → Part
shortened most text = record { text = first_line text; most = most }

abbrev pub said : List ℕ → Part
said text = shortened 1024 text

-- a number
abbrev pub counted : ℕ → Part
counted n = said (decimal n)

-- a name, whose newlines are shown as other control characters are
abbrev pub named : ℕ → List ℕ → Part
named most text = record { text = text; most = most }

-- `after` is the line with these parts after it
abbrev pub Says : List Part → List ℕ → List ℕ → Type 0
Says [] line after = after ≡ line
Says (part ∷ parts) line after = (next : List ℕ) × Shows part.most part.text line next × Says parts next after

-- the part of a file's name that is shown
abbrev pub IsFirstPart : List ℕ → List ℕ → Type 0
IsFirstPart file part = (part ≡ file) ⊎ ((n : ℕ) × (253 ≤ n) × (n ≤ 256) × (part ≡ take n file))

-- the line of a report of a file, or of standard input, to which nothing was added
abbrev pub IsBegun : Option (List ℕ) → List ℕ → Type 0
IsBegun None line = Says (said (codes ": ") ∷ []) (codes "fixed") line
IsBegun (Some file) line = (part : List ℕ) × IsFirstPart file part
    × Says (said (codes ": ") ∷ named 256 part ∷ said (codes ": ") ∷ []) (codes "fixed") line
