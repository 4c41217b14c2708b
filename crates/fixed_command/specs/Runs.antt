-- What the run of a command leaves, seen from outside.
use Rattle.std.specs.Prelude.{◌≡◌, ◌⊎◌, ◌≤◌, ◌<◌, ℕ, List, Option, Some, length}
use Rattle.fixed_columns.specs.Answer as columns
use Rattle.fixed_constants.specs.Forms as constants
use Rattle.fixed_constants.specs.Plain.{IsPlainAnswer}
use Rattle.fixed_enclose.specs.Answer as enclose
use Rattle.fixed_respell.specs.Answer as respell
use Rattle.line_engine.specs.AnswerText.{AnswerText}
use Rattle.line_engine.specs.Asked.{AskedWithin}
use Rattle.line_engine.specs.Lines.{lines}
use Rattle.line_engine.specs.Output.{AppendsPrefix, AreAnswers, written_of}
use Rattle.line_engine.specs.Program.{Outside}
use Rattle.line_engine.specs.Run.{HasFailures, HasRun, Spends, WritesOutput}
use Rattle.line_engine.specs.declared.status.Status.{Status}
use Rattle.line_engine.specs.declared.status.Status.TheVariants.{NoMemory, TooLong, WriteFault}
pub use Rattle.line_engine.specs.WholeRun.{IsWholeRun, Undisturbed}
pub use Rattle.run_engine.specs.LineRun.{outside_at}
use Rattle.fixed_command.specs.Convert.{IsLineReply, IsReply}
use Rattle.fixed_command.specs.Errors.{IsErrorLine}
use Rattle.fixed_command.specs.LaidList.{laid_out}
use Rattle.fixed_command.specs.Layout.{AnswersLaidOut, IsLaidOut}
use Rattle.fixed_command.specs.LeastLines.{IsLeastWritten}
use Rattle.fixed_command.specs.Limits.{limit_of, whole_limit_of}
use Rattle.fixed_command.specs.LineBlocks.{IsLineBlock}
use Rattle.fixed_command.specs.Products.{IsProduct}
use Rattle.fixed_command.specs.Renamed.{IsRenamedAnswer}
use Rattle.fixed_command.specs.declared.task.Task.{Task}
use Rattle.fixed_command.specs.declared.task.Task.TheVariants.{Ask, Columns, Constants, Convert, Enclose, Errors}
use Rattle.fixed_command.specs.declared.task.Task.TheVariants.{LaidOut, LaidOutAsk, LaidOutEnclose, LaidOutLeast}
use Rattle.fixed_command.specs.declared.task.Task.TheVariants.{LaidOutLines, Least, Lines, Reported}

-- a run over lines, by the meaning `A` of the answer to a line
pub record HasLineRun (A : List ℕ → AnswerText → Type 0) (limit per_byte extra : ℕ) (before after : Outside)
    (status : Status) : Type 0 where
  -- an input within the limit is answered in full, line by line and in order, or memory ran out
  pub output : (input : List ℕ) → before.left ≡ Some input → length input ≤ limit → Undisturbed before after
      → (status ≡ NoMemory) ⊎ WritesOutput A input before.written after.written status
  -- a longer input is reported, or memory ran out
  pub too_long : (input : List ℕ) → before.left ≡ Some input → limit < length input → Undisturbed before after
      → (status ≡ NoMemory) ⊎ (status ≡ TooLong)
  -- what was taken and what was written, by status
  pub run : HasRun A limit before.left after.left before.written after.written status
  -- a prefix of the whole output, if a write failed
  pub prefix_on_write_fault : status ≡ WriteFault → (input : List ℕ) (answers : List AnswerText)
      → before.left ≡ Some input → AreAnswers A (lines input) answers
      → AppendsPrefix before.written after.written (written_of answers)
  -- the most steps that a byte and a line cost
  pub cost : Spends limit per_byte extra before.left after.left before.steps after.steps
  -- what reads requested of the source
  pub asked : AskedWithin limit before.asked after.asked
  -- which count of failures rose, by status
  pub failures : HasFailures before.read_failures after.read_failures before.write_failures after.write_failures status

-- the most steps that a line costs with a report, for each of its bytes and besides them: its numeral is converted,
-- read again, and compared with the longest that may have been kept
abbrev pub reported_per_byte : ℕ
reported_per_byte = 67

abbrev pub reported_extra : ℕ
reported_extra = 20974641

-- the run of a task over an input within a limit
abbrev pub TaskRuns : Option ℕ → Task → Outside → Outside → Status → Type 0
TaskRuns limit Lines = HasLineRun respell.IsAnswer (limit_of limit) 8 624
TaskRuns limit (LaidOutLines layout) = HasLineRun (AnswersLaidOut layout respell.IsAnswer) (limit_of limit) 8 624
TaskRuns limit (Convert settings) = HasLineRun (IsLineReply settings) (limit_of limit) 8 624
TaskRuns limit (LaidOut laid) = HasLineRun (IsLaidOut laid.layout (IsReply laid.rule)) (limit_of limit) 8 624
TaskRuns limit (Reported counted) = HasLineRun (IsLaidOut counted.laid.layout (IsReply counted.laid.rule))
    (limit_of limit) reported_per_byte reported_extra
TaskRuns limit (Errors lines) = HasLineRun (IsErrorLine lines) (limit_of limit) 11 1565
TaskRuns limit Enclose = HasLineRun enclose.IsAnswer (limit_of limit) 16 1248
TaskRuns limit (LaidOutEnclose layout) = HasLineRun (AnswersLaidOut layout enclose.IsAnswer) (limit_of limit) 16 1248
TaskRuns limit (Ask form question) = HasLineRun (IsLineBlock form question) (limit_of limit) 26 3307
TaskRuns limit (LaidOutAsk form question layout) = HasLineRun (AnswersLaidOut layout (IsLineBlock form question))
    (limit_of limit) 26 3307
TaskRuns limit (Least rule) = IsWholeRun (IsLeastWritten rule) (whole_limit_of limit)
TaskRuns limit (LaidOutLeast rule layout) = IsWholeRun (λ input. IsLeastWritten rule (laid_out (Some layout) input))
    (whole_limit_of limit)
TaskRuns limit (Constants rule) = IsWholeRun (IsProduct (IsPlainAnswer (IsRenamedAnswer
    (constants.IsFormAnswer rule.form rule.guard.now)))) (whole_limit_of limit)
TaskRuns limit Columns = IsWholeRun columns.IsWholeAnswer (whole_limit_of limit)
