-- The output for a line of an input: a block and an empty line after it, or an object of JSON.
use Rattle.std.specs.Prelude.{◌≡◌, ℕ, List, Bool, true, false, codes, if◌then◌else◌, length, nat_lt}
use Rattle.fixed_bits.specs.Formats.{IsFormat}
use Rattle.fixed_respell.specs.LineWords.{longest_line}
use Rattle.fixed_show.specs.declared.form.Form.{Form}
use Rattle.line_engine.specs.AnswerText.{AnswerText}
use Rattle.fixed_command.specs.Blocks.{IsAnswered, refused_answer}
use Rattle.fixed_command.specs.Convert.{without_return}
use Rattle.fixed_command.specs.declared.blocks.Question.{Question}
use Rattle.fixed_command.specs.declared.blocks.Question.TheVariants.{Amount, Bits, Fields, Format, Part, Show}
use Rattle.fixed_command.specs.declared.message.Message.{Message}

-- the binary format of a question, if it has one, is valid
abbrev pub HasFormat : Question → Type 0
HasFormat (Show radix format policy mode) = IsFormat format.width format.frac
HasFormat (Bits radix format) = IsFormat format.width format.frac
HasFormat (Part radix part format) = IsFormat format.width format.frac
HasFormat (Fields question) = Unit {0}
HasFormat (Amount question) = Unit {0}
HasFormat Format = Unit {0}

-- the answer to a line that is too long
abbrev pub long_answer : Form → List ℕ → AnswerText
long_answer form line = record { text = refused_answer form line (codes "line too long"); fault = true }

-- the answer to a line, by whether it is too long
abbrev pub IsAnswerOf : Bool → Form → Question → List ℕ → AnswerText → Type 0
IsAnswerOf true form q line answer = answer ≡ long_answer form line
IsAnswerOf false form q line answer = HasFormat q × IsAnswered form q (without_return line) answer

-- the answer to a line: that to the question about the line without one carriage return at its end
abbrev pub IsLineBlock : Form → Question → List ℕ → AnswerText → Type 0
IsLineBlock form q line answer = IsAnswerOf (nat_lt longest_line (length line)) form q line answer

-- the line that an answer shows: without one carriage return at its end, unless it is too long
abbrev pub given_line : List ℕ → List ℕ
given_line line = if nat_lt longest_line (length line) then line else without_return line

-- the text for a line that is refused for a cause
abbrev pub line_refusal : Form → List ℕ → Message → List ℕ
line_refusal form line cause = refused_answer form (given_line line) cause.text.now

-- a line has at most one answer
abbrev pub LineBlockIsTheOne : Type 0
LineBlockIsTheOne = (form : Form) (q : Question) (line : List ℕ) (a b : AnswerText) → IsLineBlock form q line a
    → IsLineBlock form q line b → a ≡ b
