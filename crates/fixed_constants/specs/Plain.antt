-- Constants files as people write them: more blanks, and comments after formats.
use Rattle.std.specs.Prelude.{◌==◌, ◌||◌, ℕ, Bool, true, false, List, [], ◌∷◌, ◌++◌, if◌then◌else◌, not}
use Rattle.std.specs.Char.{is_ascii_whitespace}
use Rattle.fixed_respell.specs.LineWords.{space}
use Rattle.line_engine.specs.AnswerText.{AnswerText}
use Rattle.line_engine.specs.Lines.{lines}
use Rattle.fixed_constants.specs.declared.plain.Place.{Place}
use Rattle.fixed_constants.specs.declared.plain.Place.TheVariants.{Start, Word, Gap, Comment}

-- ---- a line
-- a byte of a word, and not a blank or the sign of a comment
abbrev pub is_text : ℕ → Bool
is_text byte = not (is_ascii_whitespace byte || (byte == 35))

-- the place after a byte: an equals sign is a word of its own, and a comment goes on to the end of the line
abbrev pub after_text : ℕ → Place
after_text byte = if byte == 61 then Gap else Word

abbrev pub after_other : Place → Place
after_other Start = Start
after_other Word = Gap
after_other Gap = Gap
after_other Comment = Comment

abbrev pub next_place : Place → ℕ → Place
next_place Comment byte = Comment
next_place place byte =
    if byte == 35 then Comment else (if is_ascii_whitespace byte then after_other place else after_text byte)

-- whether a blank is due before a byte of a word
abbrev pub is_due : Place → ℕ → Bool
is_due Start byte = false
is_due Word byte = byte == 61
is_due Gap byte = true
is_due Comment byte = false

-- what is kept of a byte, with the blank before it
abbrev pub kept_text : Place → ℕ → List ℕ
kept_text Comment byte = []
kept_text place byte =
    if is_text byte then (if is_due place byte then space ∷ byte ∷ [] else byte ∷ []) else []

unfoldable pub plain_from : Place → List ℕ → List ℕ
plain_from place [] = []
plain_from place (byte ∷ more) = kept_text place byte ++ plain_from (next_place place byte) more

-- a line without its comment and with one blank between words
abbrev pub plain_line : List ℕ → List ℕ
plain_line line = plain_from Start line

-- ---- a text
abbrev pub plain_lines : List (List ℕ) → List ℕ
plain_lines [] = []
plain_lines (line ∷ more) = plain_line line ++ 10 ∷ plain_lines more

-- the plain lines of a text, each with a newline
abbrev pub plain_text : List ℕ → List ℕ
plain_text text = plain_lines (lines text)

-- by the meaning `A` of an answer, the answer is that to the plain text of an input
abbrev pub IsPlainAnswer : (List ℕ → AnswerText → Type 0) → List ℕ → AnswerText → Type 0
IsPlainAnswer A input answer = A (plain_text input) answer
