-- The effects of a run of the program, seen from outside.
use Rattle.std.specs.Prelude.{◌≡◌, ℕ, ◌≤◌, ◌<◌, ◌⊎◌, List, String, Some, length}
use Rattle.std.specs.declared.alloc.Global.{Global}
use Rattle.fixed_respell.specs.Answer.{IsAnswer}
use Rattle.fixed_respell.specs.Command.{IsCommand, IsUsageFault, usage_line}
use Rattle.fixed_respell.specs.SelfMode.{HasSelfRun}
use Rattle.fixed_respell.specs.declared.command.Command.TheVariants.{Read, SelfTest}
use Rattle.line_engine.specs.AnswerText.{AnswerText}
use Rattle.line_engine.specs.Asked.{AskedWithin}
use Rattle.line_engine.specs.Failures.{HasFailed}
use Rattle.line_engine.specs.Lines.{lines}
use Rattle.line_engine.specs.Output.{AppendsPrefix, AreAnswers, written_of}
use Rattle.line_engine.specs.Program.{Outside, ReadsNothing}
use Rattle.line_engine.specs.Run.{HasFailures, HasRun, Spends, WritesOutput, WritesText}
use Rattle.line_engine.specs.declared.status.Status.{Status}
use Rattle.line_engine.specs.declared.status.Status.TheVariants.{Usage, WriteFault, NoMemory, TooLong}

-- the contract of `run`: a run with these arguments that ended with this status
pub record HasProgramRun (args : List (String Global)) (before after : Outside) (status : Status) : Type 0 where
  -- an input within the limit is answered whole if no read and no write failed, unless there was no memory
  pub output : (limit : ℕ) → IsCommand args (Read limit) → (input : List ℕ) → before.left ≡ Some input
      → length input ≤ limit
      → ¬ HasFailed before.read_failures after.read_failures → ¬ HasFailed before.write_failures after.write_failures
      → (status ≡ NoMemory) ⊎ WritesOutput IsAnswer input before.written after.written status
  -- a longer input is reported, under the same conditions
  pub too_long : (limit : ℕ) → IsCommand args (Read limit) → (input : List ℕ) → before.left ≡ Some input
      → limit < length input
      → ¬ HasFailed before.read_failures after.read_failures → ¬ HasFailed before.write_failures after.write_failures
      → (status ≡ NoMemory) ⊎ (status ≡ TooLong)
  -- the bytes taken and the bytes written, by status
  pub run : (limit : ℕ) → IsCommand args (Read limit) → HasRun IsAnswer limit before.left after.left before.written
      after.written status
  -- a prefix of the whole output was written if a write failed
  pub prefix_on_write_fault : (limit : ℕ) → IsCommand args (Read limit) → status ≡ WriteFault
      → (input : List ℕ) (replies : List AnswerText) → before.left ≡ Some input
      → AreAnswers IsAnswer (lines input) replies → AppendsPrefix before.written after.written (written_of replies)
  -- at most 8 steps a byte and 624 a line
  pub cost : (limit : ℕ) → IsCommand args (Read limit) → Spends limit 8 624 before.left after.left before.steps
      after.steps
  -- the bound on the reads of the source
  pub asked : (limit : ℕ) → IsCommand args (Read limit) → AskedWithin limit before.asked after.asked
  -- the self test of generated lines
  pub self_test : (count : ℕ) → IsCommand args (SelfTest count)
      → HasSelfRun count before.written after.written before.write_failures after.write_failures status
  -- the usage line is written for other arguments
  pub usage : IsUsageFault args → WritesText usage_line Usage before.written after.written before.write_failures
      after.write_failures status
  pub usage_only : status ≡ Usage → IsUsageFault args
  -- the count of failures that rose, by status
  pub failures : HasFailures before.read_failures after.read_failures before.write_failures after.write_failures status
  -- a run whose command is not Read reads nothing
  pub untouched : ((limit : ℕ) → ¬ IsCommand args (Read limit)) → ReadsNothing before after
  -- nothing was done without memory
  pub memory : status ≡ NoMemory → after ≡ before
