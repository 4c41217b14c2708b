-- Laws of runs: the output for an input, and the run's status, are determined.
use Rattle.std.specs.Prelude.{◌≡◌, ℕ, ◌-◌, ◌^◌, ◌<◌, List, Some}
use Rattle.std.specs.declared.option.Option.{Option}
use Rattle.line_engine.specs.AnswerText.{AnswerText}
use Rattle.line_engine.specs.Filled.{HasFilled}
use Rattle.line_engine.specs.Run.{HasFailures, HasRun, WritesText}
use Rattle.line_engine.specs.Output.{WritesOutput}
use Rattle.line_engine.specs.WholeRun.{HasWholeRun, WritesAnswer}
use Rattle.line_engine.specs.declared.status.Status.{Status}
use Rattle.line_engine.specs.declared.status.Status.TheVariants.{NoMemory}
use Rattle.line_engine.specs.declared.whole.Filled.{Filled}

-- the lines of an input have at most one output, and a run over them at most one status
abbrev pub OutputIsTheOne : (List ℕ → AnswerText → Type 0) → Type 0
OutputIsTheOne A = (input before a b : List ℕ) (s t : Status)
    → WritesOutput A input (Some before) (Some a) s → WritesOutput A input (Some before) (Some b) t → (a ≡ b) × (s ≡ t)

-- the same for a whole input
abbrev pub WholeOutputIsTheOne : (List ℕ → AnswerText → Type 0) → Type 0
WholeOutputIsTheOne A = (input before a b : List ℕ) (s t : Status)
    → WritesAnswer A input (Some before) (Some a) s → WritesAnswer A input (Some before) (Some b) t → (a ≡ b) × (s ≡ t)

-- the bytes taken and the counts of failures determine the status of a run over lines, if the counts can rise and
-- memory sufficed
abbrev pub RunEndIsTheOne : (List ℕ → AnswerText → Type 0) → Type 0
RunEndIsTheOne A = (limit : ℕ) (left left' before after : List ℕ) (read read' write write' : ℕ) (s t : Status)
    → read < 2 ^ 64 - 1 → write < 2 ^ 64 - 1 → ¬ (s ≡ NoMemory) → ¬ (t ≡ NoMemory)
    → HasRun A limit (Some left) (Some left') (Some before) (Some after) s → HasFailures read read' write write' s
    → HasRun A limit (Some left) (Some left') (Some before) (Some after) t → HasFailures read read' write write' t
    → s ≡ t

-- the same for a run over a whole input
abbrev pub WholeRunEndIsTheOne : (List ℕ → AnswerText → Type 0) → Type 0
WholeRunEndIsTheOne A = (limit : ℕ) (left left' before after : List ℕ) (read read' write write' : ℕ) (s t : Status)
    → read < 2 ^ 64 - 1 → write < 2 ^ 64 - 1 → ¬ (s ≡ NoMemory) → ¬ (t ≡ NoMemory)
    → HasWholeRun A limit (Some left) (Some left') (Some before) (Some after) s → HasFailures read read' write write' s
    → HasWholeRun A limit (Some left) (Some left') (Some before) (Some after) t → HasFailures read read' write write' t
    → s ≡ t

-- the count of failures determines how writing a text ended, if the count can rise
abbrev pub TextEndIsTheOne : Type 0
TextEndIsTheOne = (text : List ℕ) (ending s t : Status) (written written' : Option (List ℕ)) (failures failures' : ℕ)
    → failures < 2 ^ 64 - 1
    → WritesText text ending written written' failures failures' s
    → WritesText text ending written written' failures failures' t → s ≡ t

-- the bytes left and the count of failures determine what was taken and how reading ended, if the count can rise
abbrev pub FillIsTheOne : Type 0
FillIsTheOne = (limit : ℕ) (left left' a b : List ℕ) (failures failures' : ℕ) (s t : Filled) → failures < 2 ^ 64 - 1
    → HasFilled limit (Some left) (Some left') failures failures' a s
    → HasFilled limit (Some left) (Some left') failures failures' b t → (a ≡ b) × (s ≡ t)
