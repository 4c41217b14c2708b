-- A line of JSON cut into pieces: the tokens of RFC 8259, section 2, and each blank as a piece of its own.
use Rattle.std.specs.Prelude.{◌==◌, ◌||◌, ◌+◌, ◌-◌, ℕ, Bool, true, false, not, List, [], ◌∷◌, drop}
use Rattle.std.specs.Prelude.{if◌then◌else◌, length, take}
use Rattle.std.specs.List.{prefix_len}
use Rattle.json.specs.Word.{is_operator, is_space}

-- whether a byte belongs to a number or to `true`, `false` or `null`: it is no quote, no blank and none of {}[]:,
abbrev pub is_word_byte : ℕ → Bool
is_word_byte b = not ((is_operator b || is_space b) || (b == 34))

-- how many bytes of a string are left, with its closing quote; `escaped`: after a backslash
unfoldable pub string_rest : Bool → List ℕ → ℕ
string_rest escaped [] = 0
string_rest true (b ∷ bytes) = 1 + string_rest false bytes
string_rest false (b ∷ bytes) = if b == 34 then 1 else 1 + string_rest (b == 92) bytes

-- how many bytes the first piece has: a string with its quotes, the bytes of a word, or one byte
abbrev pub piece_length : List ℕ → ℕ
piece_length [] = 0
piece_length (b ∷ bytes) = if b == 34 then 1 + string_rest false bytes
    else (if is_word_byte b then 1 + prefix_len is_word_byte bytes else 1)

-- the first piece, and the bytes after it
abbrev pub first_piece : List ℕ → List ℕ
first_piece line = take (piece_length line) line

abbrev pub after_piece : List ℕ → List ℕ
after_piece line = drop (piece_length line) line

-- the first byte, or a blank if there is none
abbrev pub head : List ℕ → ℕ
head [] = 32
head (b ∷ bytes) = b

-- the bytes of a string between its quotes, as they are written; another piece as it is
abbrev pub content : List ℕ → List ℕ
content piece = if head piece == 34 then drop 1 (take (length piece - 1) piece) else piece

-- whether a colon comes next, after any blanks
abbrev pub begins_colon : List ℕ → Bool
begins_colon [] = false
begins_colon (b ∷ bytes) = if is_space b then begins_colon bytes else (b == 58)

-- whether a piece is the name of a member: a string before a colon
abbrev pub is_name : List ℕ → List ℕ → Bool
is_name piece rest = if head piece == 34 then begins_colon rest else false

-- whether a piece begins a value: it is a string that is not a name, a word, or a brace or bracket that opens
abbrev pub begins_value : List ℕ → List ℕ → Bool
begins_value piece rest = if head piece == 34 then not (is_name piece rest)
    else ((is_word_byte (head piece) || (head piece == 123)) || (head piece == 91))
