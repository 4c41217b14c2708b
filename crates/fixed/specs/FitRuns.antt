-- The run of `fixed fit` over a list, from what is seen of its source and its writer, and over an input.
use Rattle.std.specs.Prelude.{◌≡◌, ◌⊎◌, ℕ, List, [], None, Option, Some, option_map}
use Rattle.fixed_command.specs.Layout.{LineLayout}
use Rattle.fixed_command.specs.Limits.{limit_of}
use Rattle.fixed_fit.specs.Run.{HasFitRun}
use Rattle.fixed_fit.specs.declared.answer.Unfit.{Unfit}
use Rattle.fixed_fit.specs.declared.question.Question.{Question}
use Rattle.fixed_fit.specs.declared.question.Widths.{Widths}
use Rattle.fixed_numeral.specs.Numeral.{IsNumeral}
use Rattle.line_engine.specs.Program.{Outside, ReadsNothing, WritesNothing}
use Rattle.line_engine.specs.declared.status.Status.{Status}
use Rattle.line_engine.specs.declared.status.Status.TheVariants.{NoMemory, Usage}
use Rattle.fixed.specs.Inputs.{RunsBetween, seen_at}
use Rattle.fixed.specs.declared.commands.fit.FitTask.{FitTask}

-- nothing was read or written, and the run ended for a reason
pub record EndsAtOnce (why status : Status) (before after : Outside) : Type 0 where
  pub status_is : status ≡ why
  pub reads : ReadsNothing before after
  pub writes : WritesNothing before after

-- a question about a list is answered, for these widths within a bound if there are any; or there was no memory
abbrev pub RunsFit : ℕ → Option LineLayout → Question → Option Widths → List ℕ → Status → Outside → Outside → Type 0
RunsFit limit l q widths bound status before after =
    ((unfit : Option Unfit) × HasFitRun limit l q widths bound (seen_at before) (seen_at after) unfit status)
    ⊎ EndsAtOnce NoMemory status before after

-- with an error, the widths of the task within it; an error that is not a numeral is not answered
abbrev pub RunsFitWithin : Option (List ℕ) → ℕ → FitTask → Status → Outside → Outside → Type 0
RunsFitWithin None limit task status before after =
    RunsFit limit task.layout task.question None [] status before after
RunsFitWithin (Some error) limit task status before after =
    (IsNumeral task.question.radix error
    × RunsFit limit task.layout task.question (Some task.widths) error status before after)
    ⊎ (¬ IsNumeral task.question.radix error × EndsAtOnce Usage status before after)

-- the list of an input is answered as a job says
abbrev pub FitEndsBetween : Option ℕ → FitTask → Status → Option (List ℕ) → Option (List ℕ) → Option (List ℕ) → Type 0
FitEndsBetween limit task status =
    RunsBetween (RunsFitWithin (option_map (λ text. text.items) task.error) (limit_of limit) task status)
