-- Whole inputs that are refused: for which line, why, and what is written.
use Rattle.std.specs.Prelude.{◌≡◌, ◌⊎◌, ◌-◌, ℕ, Bool, true, false, List, [], ◌∷◌, ◌++◌, None, Option, Some}
use Rattle.std.specs.Prelude.{codes, decimal, get_or, take}
use Rattle.std.specs.Io.KnownBytes.{Consumes}
use Rattle.line_engine.specs.AnswerText.{AnswerText}
use Rattle.line_engine.specs.Lines.{lines}
use Rattle.line_engine.specs.declared.status.Status.{Status}
use Rattle.line_engine.specs.declared.status.Status.TheVariants.{Done, Faults, Usage, ReadFault, WriteFault, NoMemory}
use Rattle.line_engine.specs.declared.status.Status.TheVariants.{TooLong}
use Rattle.line_engine.specs.declared.whole_rule.WholeAnswer.{WholeAnswer}
use Rattle.line_engine.specs.declared.whole_rule.WholeAnswer.TheVariants.{Text, Refused}
use Rattle.line_engine.specs.declared.refusal.WholeRefusal.{WholeRefusal}

-- the text for an input that is refused for the line of this number, from 1
abbrev pub refusal_text : ℕ → List ℕ → List ℕ
refusal_text number cause = codes "error: line " ++ (decimal number ++ (codes ": " ++ (cause ++ 10 ∷ [])))

-- the refusal of an input, by its text
abbrev pub refusal_reply : ℕ → List ℕ → AnswerText
refusal_reply number cause = record { text = refusal_text number cause; fault = true }

-- the text of an answer, and whether it is a refusal
abbrev pub reply_of : WholeAnswer → AnswerText
reply_of (Text text) = record { text = text.items; fault = false }
reply_of (Refused number cause) = refusal_reply number cause.items

-- the line of this number, from 1; empty if there is none
abbrev pub line_at : ℕ → List ℕ → List ℕ
line_at number input = get_or (lines input) (number - 1) []

-- ---- what is written
-- nothing is written for a refused input
pub record IsRefusedProduct (A : List ℕ → AnswerText → Type 0) (input : List ℕ) (answer : AnswerText) : Type 0 where
  pub refusal : AnswerText
  pub answers : A input refusal
  pub faulty : refusal.fault ≡ true
  pub answer_is : answer ≡ record { text = []; fault = true }

-- by the meaning `A` of an answer, the answer is the product of an input, or its refusal
abbrev pub IsProduct : (List ℕ → AnswerText → Type 0) → List ℕ → AnswerText → Type 0
IsProduct A input answer = IsRefusedProduct A input answer ⊎ (A input answer × (answer.fault ≡ false))

-- what a run writes, by whether it writes refusals
abbrev pub IsWritten : Bool → (List ℕ → AnswerText → Type 0) → List ℕ → AnswerText → Type 0
IsWritten true A = A
IsWritten false A = IsProduct A

abbrev pub written_refusal : Bool → ℕ → List ℕ → List ℕ
written_refusal true number cause = refusal_text number cause
written_refusal false number cause = []

-- ---- what a run tells
-- the input that was taken is refused for this line, by the meaning `A` of an answer
pub record IsRefusal (A : List ℕ → AnswerText → Type 0) (left left' : Option (List ℕ))
    (refusal : WholeRefusal) : Type 0 where
  pub input : List ℕ
  pub taken : Consumes left left' input
  pub refused : A input (refusal_reply refusal.number refusal.cause.items)
  pub line_is : refusal.line ≡ take 160 (line_at refusal.number input)

-- the input that was taken is not refused
pub record IsNotRefused (A : List ℕ → AnswerText → Type 0) (left left' : Option (List ℕ)) : Type 0 where
  pub input : List ℕ
  pub taken : Consumes left left' input
  pub text : List ℕ
  pub answered : A input (record { text = text; fault = false })

-- the line for which an answered input is refused, if it is
abbrev pub TellsLine : (List ℕ → AnswerText → Type 0) → Option (List ℕ) → Option (List ℕ) → Option WholeRefusal
    → Type 0
TellsLine A left left' None = IsNotRefused A left left'
TellsLine A left left' (Some refusal) = IsRefusal A left left' refusal

-- what a run with this status tells of a refusal: an input that was not answered has none
abbrev pub TellsRefusal : (List ℕ → AnswerText → Type 0) → Option (List ℕ) → Option (List ℕ) → Status
    → Option WholeRefusal → Type 0
TellsRefusal A left left' Done told = (told ≡ None) × TellsLine A left left' told
TellsRefusal A left left' Faults told = (¬ (told ≡ None)) × TellsLine A left left' told
TellsRefusal A left left' Usage told = ⊥
TellsRefusal A left left' ReadFault told = told ≡ None
TellsRefusal A left left' WriteFault told = TellsLine A left left' told
TellsRefusal A left left' NoMemory told = told ≡ None
TellsRefusal A left left' TooLong told = told ≡ None
