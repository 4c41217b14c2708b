-- Lists as people write them: with blanks around a numeral, blank lines, and comments.
use Rattle.std.specs.Prelude.{ℕ, List, [], ◌∷◌, ◌++◌, Option, None, Some, codes, if◌then◌else◌, map}
use Rattle.line_engine.specs.Lines.{lines}
use Rattle.fixed_command.specs.Layout.{LineLayout, is_skipped, without_blanks}

-- the numeral of a line: a skipped line counts as `0`, which is in range of every format, without an error
abbrev pub numeral_of : LineLayout → List ℕ → List ℕ
numeral_of l line = if is_skipped l line then codes "0" else without_blanks l line

-- the numeral of a line, which is the line without a layout
abbrev pub laid : Option LineLayout → List ℕ → List ℕ
laid None line = line
laid (Some l) line = numeral_of l line

-- lines with their newlines
abbrev pub joined_lines : List (List ℕ) → List ℕ
joined_lines [] = []
joined_lines (line ∷ lines) = line ++ 10 ∷ joined_lines lines

-- the list of the numerals of an input's lines
abbrev pub laid_out : Option LineLayout → List ℕ → List ℕ
laid_out None input = input
laid_out (Some l) input = joined_lines (map (numeral_of l) (lines input))
