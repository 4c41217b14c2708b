-- The lines of an input.
use Rattle.std.specs.Prelude.{ℕ, List, [], ◌∷◌, ◌++◌, if◌then◌else◌, ◌==◌}

-- `b` before the first of these lines, if there is one
abbrev pub onto_first : ℕ → List (List ℕ) → List (List ℕ)
onto_first b [] = []
onto_first b (line ∷ lines) = (b ∷ line) ∷ lines

-- the bytes before each newline, one line for each newline
abbrev pub ended_lines : List ℕ → List (List ℕ)
ended_lines [] = []
ended_lines (b ∷ bytes) = if b == 10 then [] ∷ ended_lines bytes else onto_first b (ended_lines bytes)

-- `b` before the rest, unless a line ended in between
abbrev pub onto_rest : ℕ → List (List ℕ) → List ℕ → List ℕ
onto_rest b [] rest = b ∷ rest
onto_rest b (line ∷ lines) rest = rest

-- the bytes after the last newline
abbrev pub unended : List ℕ → List ℕ
unended [] = []
unended (b ∷ bytes) = if b == 10 then unended bytes else onto_rest b (ended_lines bytes) (unended bytes)

-- a last line without a newline, unless it is empty
abbrev pub last_line : List ℕ → List (List ℕ)
last_line [] = []
last_line (b ∷ bytes) = (b ∷ bytes) ∷ []

-- the lines of an input
abbrev pub lines : List ℕ → List (List ℕ)
lines input = ended_lines input ++ last_line (unended input)

-- how many bytes of a line are kept: one more than the longest line has
abbrev pub kept_length : ℕ
kept_length = 1048577
