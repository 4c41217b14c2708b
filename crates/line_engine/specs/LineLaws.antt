-- Laws of the lines of an input.
use Rattle.std.specs.Prelude.{◌≡◌, ℕ, List, [], ◌∷◌, ◌++◌, flat_map, Contains}
use Rattle.line_engine.specs.Lines.{ended_lines, lines, unended}

-- a line followed by its newline
abbrev pub with_newline : List ℕ → List ℕ
with_newline line = line ++ 10 ∷ []

-- the ended lines, each with its newline, followed by the unended rest, are the input
abbrev pub LinesAreTheInput : Type 0
LinesAreTheInput = (input : List ℕ) → flat_map with_newline (ended_lines input) ++ unended input ≡ input

-- no line contains a newline
abbrev pub NoLineHoldsNewline : Type 0
NoLineHoldsNewline = (input line : List ℕ) → Contains (lines input) line → ¬ Contains line 10

-- for an input cut in two anywhere: its lines are those ended in the first part, then those of that part's unended rest
-- followed by the second part
pub record AreLinesOfBoth (first rest : List ℕ) : Type 0 where
  pub ended : ended_lines (first ++ rest) ≡ ended_lines first ++ ended_lines (unended first ++ rest)
  pub remaining : unended (first ++ rest) ≡ unended (unended first ++ rest)
  pub all : lines (first ++ rest) ≡ ended_lines first ++ lines (unended first ++ rest)

abbrev pub CutAnywhere : Type 0
CutAnywhere = (first rest : List ℕ) → AreLinesOfBoth first rest

-- a line without a newline inside comes before the lines of the bytes after its newline
abbrev pub LineComesFirst : Type 0
LineComesFirst = (line rest : List ℕ) → ¬ Contains line 10 → lines (line ++ 10 ∷ rest) ≡ line ∷ lines rest

-- a non-empty line without a newline inside is the only line of its own text
abbrev pub LastLineNeedsNoNewline : Type 0
LastLineNeedsNoNewline = (line : List ℕ) → ¬ (line ≡ []) → ¬ Contains line 10 → lines line ≡ line ∷ []
