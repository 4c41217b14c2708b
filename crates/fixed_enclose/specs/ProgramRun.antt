-- The effects of a run of the program, seen from outside.
use Rattle.std.specs.Prelude.{◌≡◌, ℕ, ◌≤◌, ◌<◌, ◌⊎◌, List, [], String, Some, length}
use Rattle.std.specs.declared.alloc.Global.{Global}
use Rattle.line_engine.specs.AnswerText.{AnswerText}
use Rattle.line_engine.specs.Asked.{AskedWithin}
use Rattle.line_engine.specs.Failures.{HasFailed}
use Rattle.line_engine.specs.Lines.{lines}
use Rattle.line_engine.specs.Output.{AreAnswers, written_of, WritesOutput}
use Rattle.line_engine.specs.Appended.{AppendsPrefix}
use Rattle.line_engine.specs.Program.{Outside, ReadsNothing}
use Rattle.line_engine.specs.Run.{HasFailures, HasRun, Spends, WritesText}
use Rattle.line_engine.specs.declared.status.Status.{Status}
use Rattle.line_engine.specs.declared.status.Status.TheVariants.{Usage, WriteFault, NoMemory, TooLong}
use Rattle.fixed_enclose.specs.Answer.{IsAnswer, usage_line}

-- an argument is a usage fault: the program takes none
abbrev pub IsUsageFault : List (String Global) → Type 0
IsUsageFault args = ¬ (args ≡ [])

-- the greatest number of bytes that are read
abbrev pub limit : ℕ
limit = 4294967296

-- the contract of `run_enclose`: a run with these arguments that ended with this status
pub record HasEncloseRun (args : List (String Global)) (before after : Outside) (status : Status) : Type 0 where
  -- an input within the limit is answered whole if no read and no write failed, unless there was no memory
  pub output : args ≡ [] → (input : List ℕ) → before.left ≡ Some input → length input ≤ limit
      → ¬ HasFailed before.read_failures after.read_failures → ¬ HasFailed before.write_failures after.write_failures
      → (status ≡ NoMemory) ⊎ WritesOutput IsAnswer input before.written after.written status
  -- a longer input is reported, under the same conditions
  pub too_long : args ≡ [] → (input : List ℕ) → before.left ≡ Some input → limit < length input
      → ¬ HasFailed before.read_failures after.read_failures → ¬ HasFailed before.write_failures after.write_failures
      → (status ≡ NoMemory) ⊎ (status ≡ TooLong)
  -- the bytes taken and the bytes written, by status
  pub run : args ≡ [] → HasRun IsAnswer limit before.left after.left before.written after.written status
  -- a prefix of the whole output was written if a write failed
  pub prefix_on_write_fault : args ≡ [] → status ≡ WriteFault → (input : List ℕ) (answers : List AnswerText)
      → before.left ≡ Some input
      → AreAnswers IsAnswer (lines input) answers → AppendsPrefix before.written after.written (written_of answers)
  -- at most 16 steps a byte and 1,248 a line
  pub cost : args ≡ [] → Spends limit 16 1248 before.left after.left before.steps after.steps
  -- the bound on the reads of the source
  pub asked : args ≡ [] → AskedWithin limit before.asked after.asked
  -- the usage line is written for other arguments
  pub usage : IsUsageFault args
      → WritesText usage_line Usage before.written after.written before.write_failures after.write_failures status
  pub usage_only : status ≡ Usage → IsUsageFault args
  -- the count of failures that rose, by status
  pub failures : HasFailures before.read_failures after.read_failures before.write_failures after.write_failures status
  -- a run with other arguments reads nothing
  pub untouched : IsUsageFault args → ReadsNothing before after
  -- nothing was done without memory
  pub memory : status ≡ NoMemory → after ≡ before
