-- What the answer to a line has in its buffer.
use Rattle.std.specs.Prelude.{◌≡◌, ◌++◌, Bool, true, false, ℕ, List, [], if◌then◌else◌, length, take}
use Rattle.line_engine.specs.AnswerText.{AnswerText}
use Rattle.line_engine.specs.Lines.{kept_length}
use Rattle.json_lines.specs.Answers.{AnswersFrom, IsValueReply, exchanged, opens}
use Rattle.json_lines.specs.Path.{PathStep}
use Rattle.json_lines.specs.declared.answer.Refused.{Refused}
use Rattle.json_lines.specs.declared.answer.Refused.TheVariants.{Line, No, Value}

-- whether a line is refused
abbrev pub is_refused : Refused → Bool
is_refused No = false
is_refused (Line fault) = true
is_refused (Value at end) = true

-- a value was answered: it is exchanged, or its refusal is the answer
pub record IsReplied (A : List ℕ → AnswerText → Type 0) (quotes : Bool) (piece : List ℕ) (refused : Bool)
    (old new : List ℕ) : Type 0 where
  pub reply : AnswerText
  pub replied : IsValueReply (opens piece) A piece reply
  pub fault : reply.fault ≡ refused
  pub text : new ≡ take kept_length (if refused then reply.text else old ++ exchanged quotes piece reply.text)

-- a buffer has the first bytes of an answer
pub record IsHeld (answer : AnswerText) (text : List ℕ) (refused : Refused) : Type 0 where
  pub text_is : text ≡ take kept_length answer.text
  pub fault : answer.fault ≡ is_refused refused

-- it has the answer
pub record IsMade (answer : AnswerText) (text : List ℕ) (refused : Refused) : Type 0 where
  pub text_is : text ≡ answer.text
  pub fault : answer.fault ≡ is_refused refused

-- the values of a line that is JSON were answered
pub record IsWhole (steps : List PathStep) (quotes : Bool) (A : List ℕ → AnswerText → Type 0) (line text : List ℕ)
    (refused : Refused) : Type 0 where
  pub whole : AnswerText
  pub is : AnswersFrom steps quotes A (length line) [] false line whole
  pub held : IsHeld whole text refused
