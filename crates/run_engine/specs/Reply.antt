-- The answer to a line, or the cause of its refusal.
use Rattle.std.specs.Prelude.{◌≡◌, ◌≤◌, ℕ, List, [], ◌++◌, true, false, Option, Some, None, Result, Ok, Err, IfOk}
use Rattle.std.specs.Prelude.{length, codes}
use Rattle.line_engine.specs.AnswerText.{AnswerText}

-- the text that reports an error with this message
abbrev pub error_text : List ℕ → List ℕ
error_text message = codes "error: " ++ message

-- the bytes written for a text, or for a cause
abbrev pub reply_of : {C : Type 0} → (C → List ℕ) → List ℕ → Option C → AnswerText
reply_of message text None = record { text = text; fault = false }
reply_of message text (Some cause) = record { text = error_text (message cause); fault = true }

-- the answer to a line: a text or, with a cause, the text of its refusal
abbrev pub answer_of : {N C : Type 0} → (C → List ℕ) → List ℕ → Result N C → AnswerText
answer_of refusal text (Ok note) = record { text = text; fault = false }
answer_of refusal text (Err cause) = record { text = refusal cause; fault = true }

-- a refused line has no text
abbrev pub HasNone : {N C : Type 0} → Result N C → List ℕ → Type 0
HasNone (Ok note) text = Unit {0}
HasNone (Err cause) text = text ≡ []

-- a rule appended the answer to a line, or appended nothing and refused the line; the answer has at most `most` bytes
pub record Replies {N C : Type 0} (A : List ℕ → AnswerText → Type 0) (refusal : List ℕ → C → List ℕ)
    (most : ℕ) (line before after : List ℕ) (result : Result N C) : Type 0 where
  pub text : List ℕ
  pub answer : A line (answer_of (refusal line) text result)
  pub appended : after ≡ before ++ text
  pub none : HasNone result text
  pub short : length (answer_of (refusal line) text result).text ≤ most

-- what a rule returned for a line with this answer
pub record Returns {N C : Type 0} (Notes : List ℕ → N → Type 0) (refusal : List ℕ → C → List ℕ)
    (line : List ℕ) (answer : AnswerText) (result : Result N C) : Type 0 where
  pub text : List ℕ
  pub is : answer ≡ answer_of (refusal line) text result
  pub note : IfOk result (Notes line)
