-- Languages of lines: a line is answered with its first fault, or with the answer to its task.
use Rattle.std.specs.Prelude.{◌≡◌, ◌⊎◌, ℕ, List, ◌++◌, true, codes}
use Rattle.fixed_respell.specs.LineWords.{IsFirst}
use Rattle.line_engine.specs.AnswerText.{AnswerText}

-- the faults of a line in the order of their ranks, each with its message, and the tasks that lines ask for, each with
-- its answer
pub record Language : Type 1 where
  pub Fault : Type 0
  pub rank : Fault → ℕ
  pub HasFault : Fault → List ℕ → Type 0
  pub message : Fault → List ℕ
  pub Task : Type 0
  pub Asks : List ℕ → Task → Type 0
  pub IsAnswered : Task → AnswerText → Type 0

-- the answer that reports a fault
abbrev pub fault_answer : List ℕ → AnswerText
fault_answer message = record { text = codes "error: " ++ message; fault = true }

-- the line's first fault is reported
pub record IsFaultAnswer (L : Language) (line : List ℕ) (answer : AnswerText) : Type 0 where
  pub fault : L.Fault
  pub first : IsFirst L.Fault L.rank (λ f. L.HasFault f line) fault
  pub answer_is : answer ≡ fault_answer (L.message fault)

-- the line asks for a task, and `answer` is the task's answer
pub record IsTaskAnswer (L : Language) (line : List ℕ) (answer : AnswerText) : Type 0 where
  pub task : L.Task
  pub asks : L.Asks line task
  pub answered : L.IsAnswered task answer

-- the line's answer in the language
abbrev pub IsAnswerIn : Language → List ℕ → AnswerText → Type 0
IsAnswerIn L line answer = IsFaultAnswer L line answer ⊎ IsTaskAnswer L line answer
