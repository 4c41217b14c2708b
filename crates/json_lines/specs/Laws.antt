-- The statements of this crate's laws.
use Rattle.std.specs.Prelude.{◌≡◌, ℕ, List}
use Rattle.line_engine.specs.AnswerText.{AnswerText}
use Rattle.json_lines.specs.Answers.{IsJsonAnswer}
use Rattle.json_lines.specs.Path.{PathStep}
use Rattle.json_lines.specs.declared.task.Form.{Form}

-- a line has one answer, by a meaning of the reply to a value
abbrev pub JsonAnswerIsTheOne : (List ℕ → AnswerText → Type 0) → Type 0
JsonAnswerIsTheOne A = (steps : List PathStep) (form : Form) (line : List ℕ) (a b : AnswerText)
    → IsJsonAnswer steps form A line a → IsJsonAnswer steps form A line b → a ≡ b
