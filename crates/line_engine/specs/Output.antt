-- The output for an input: the answers to its lines, each followed by a newline.
use Rattle.std.specs.Prelude.{◌≡◌, ℕ, List, [], ◌∷◌, ◌++◌, Bool, true, false, flat_map}
use Rattle.std.specs.declared.option.Option.{Option}
use Rattle.std.specs.Io.KnownBytes.{Appends}
use Rattle.std.specs.List.{list_any}
use Rattle.line_engine.specs.AnswerText.{AnswerText}
pub use Rattle.line_engine.specs.Appended.{AppendsAnswer, AppendsPrefix}
use Rattle.line_engine.specs.Lines.{lines}
use Rattle.line_engine.specs.declared.status.Status.{Status}
use Rattle.line_engine.specs.declared.status.Status.TheVariants.{Done, Faults}

-- these replies answer these lines, one each and in order, by the meaning `A` of an answer
abbrev pub AreAnswers : (List ℕ → AnswerText → Type 0) → List (List ℕ) → List AnswerText → Type 0
AreAnswers A [] [] = Unit {0}
AreAnswers A [] (reply ∷ replies) = ⊥
AreAnswers A (line ∷ lines) [] = ⊥
AreAnswers A (line ∷ lines) (reply ∷ replies) = A line reply × AreAnswers A lines replies

-- the bytes written for a reply
abbrev pub reply_line : AnswerText → List ℕ
reply_line reply = reply.text ++ 10 ∷ []

-- the bytes written for these replies
abbrev pub written_of : List AnswerText → List ℕ
written_of replies = flat_map reply_line replies

-- whether the reply reports a fault
abbrev pub is_fault : AnswerText → Bool
is_fault reply = reply.fault

-- whether one of these replies reports a fault
abbrev pub any_fault : List AnswerText → Bool
any_fault replies = list_any is_fault replies

-- the status of a run that answered all lines, by whether an answer was a fault
abbrev pub status_of : Bool → Status
status_of true = Faults
status_of false = Done

-- the whole output for the input was written, and the status says whether an answer is a fault
pub record WritesOutput (A : List ℕ → AnswerText → Type 0)
    (input : List ℕ) (written written' : Option (List ℕ)) (status : Status) : Type 0 where
  pub replies : List AnswerText
  pub answers : AreAnswers A (lines input) replies
  pub output : Appends written written' (written_of replies)
  pub faulty : status ≡ status_of (any_fault replies)
