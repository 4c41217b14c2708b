-- What the end of a task reports: the refused lines, the outcomes of the numerals, and the greatest error.
use Rattle.std.specs.Prelude.{◌≡◌, ℕ, List, [], None, Option, Result, Some}
use Rattle.fixed_columns.specs.Answer as columns
use Rattle.fixed_constants.specs.Forms as constants
use Rattle.fixed_constants.specs.Plain.{IsPlainAnswer}
use Rattle.fixed_enclose.specs.Answer as enclose
use Rattle.fixed_enclose.specs.declared.rule.EncloseRule.{EncloseRule}
use Rattle.fixed_report.specs.Report.{HasReport, HasSums}
use Rattle.fixed_respell.specs.Answer as respell
use Rattle.fixed_respell.specs.Refusal.{refusal_message, refusal_text}
use Rattle.fixed_respell.specs.declared.respell_rule.RespellRule.{RespellRule}
use Rattle.line_engine.specs.AnswerText.{AnswerText}
use Rattle.line_engine.specs.Program.{Outside}
use Rattle.line_engine.specs.Refusals.{TellsRefusal}
use Rattle.line_engine.specs.declared.refusal.WholeRefusal.{WholeRefusal}
use Rattle.run_engine.specs.LineRun.{HasLinesRun}
use Rattle.run_engine.specs.Refused.{SawRefused}
use Rattle.run_engine.specs.Reply.{Returns}
use Rattle.run_engine.specs.declared.refusals.Refusals.{Refusals}
use Rattle.fixed_show.specs.declared.form.Form.{Form}
use Rattle.fixed_command.specs.Convert.{IsLineReply, IsReply, without_return}
use Rattle.fixed_command.specs.Errors.{IsErrorLine}
use Rattle.fixed_command.specs.LaidList.{laid_out}
use Rattle.fixed_command.specs.Layout.{AnswersLaidOut, IsLaidOut, LineLayout, NotesLaidOut, answered_line}
use Rattle.fixed_command.specs.LeastLines.{IsLeastWritten}
use Rattle.fixed_command.specs.Limits.{limit_of}
use Rattle.fixed_command.specs.LineBlocks.{IsLineBlock, line_refusal}
use Rattle.fixed_command.specs.Message.{message_text}
use Rattle.fixed_command.specs.Observed.{IsLineOutcome, SawCounted, SawLaid, SawReturned, reported_of}
use Rattle.fixed_command.specs.Renamed.{IsRenamedAnswer}
use Rattle.fixed_command.specs.Runs.{reported_extra, reported_per_byte}
use Rattle.fixed_command.specs.Watched.{count_told, first_told}
use Rattle.fixed_command.specs.declared.blocks.Question.{Question}
use Rattle.fixed_command.specs.declared.laid_lines.LaidOutLines as laid
use Rattle.fixed_command.specs.declared.laid_lines.LaidRefusals.{LaidRefusals}
use Rattle.fixed_command.specs.declared.line_blocks.BlockRule.{BlockRule}
use Rattle.fixed_command.specs.declared.message.Message.{Message}
use Rattle.fixed_command.specs.declared.observed.CountedRule.{CountedRule}
use Rattle.fixed_command.specs.declared.observed.LineReport.{LineReport}
use Rattle.fixed_command.specs.declared.observed.RefusedLines.{RefusedLines}
use Rattle.fixed_command.specs.declared.outcome.Tally.{Tally}
use Rattle.fixed_command.specs.declared.task.Task.{Task}
use Rattle.fixed_command.specs.declared.task.Task.TheVariants.{Ask, Columns, Constants, Convert, Enclose, Errors}
use Rattle.fixed_command.specs.declared.task.Task.TheVariants.{LaidOut, LaidOutAsk, LaidOutEnclose, LaidOutLeast}
use Rattle.fixed_command.specs.declared.task.Task.TheVariants.{LaidOutLines, Least, Lines, Reported}
use Rattle.fixed_command.specs.declared.task.TaskEnd.{TaskEnd}
use Rattle.fixed_command.specs.declared.watch.Refusals as report

-- no line was refused yet
pub record IsFresh {C : Type 0} (refusals : Refusals C) : Type 0 where
  pub count : refusals.count ≡ 0
  pub none : refusals.first ≡ None

-- the report says what was recorded of refused lines
pub record Tells {C : Type 0} (message : C → List ℕ) (refusals : Refusals C) (told : report.Refusals) : Type 0 where
  pub count : told.count ≡ refusals.count
  pub first : told.first ≡ reported_of message refusals.first

-- nothing is noted of an answered line
abbrev pub NoNote : List ℕ → Unit {0} → Type 0
NoNote line note = Unit {0}

-- an observer of refused lines saw the lines of a run, and the end reports what it recorded
pub record ReportsRefused (R : Type 0) {C : Type 0} (A : List ℕ → AnswerText → Type 0)
    (refusal : List ℕ → C → List ℕ) (message : C → List ℕ) (per_byte extra limit : ℕ) (before after : Outside)
    (end : TaskEnd) : Type 0 where
  pub rule : R
  pub first : Refusals C
  pub last : Refusals C
  pub fresh : IsFresh first
  pub run : HasLinesRun rule A (Returns NoNote refusal) SawRefused per_byte extra limit before after end.status first
      last
  pub tells : Tells message last end.refusals

-- how the observer of refused lines as they were answered changes
abbrev pub SawLaidOf : {N C : Type 0} → (List ℕ → List ℕ) → LineLayout → LaidRefusals C → ℕ → List ℕ → Result N C
    → LaidRefusals C → Type 0
SawLaidOf recorded l watch number line result then = SawLaid recorded l watch.refusals number line result then.refusals

-- the same for lines with a layout: the observer saw the recorded part of each line as it was answered
pub record ReportsLaid (R : Type 0) {C : Type 0} (recorded : List ℕ → List ℕ) (layout : LineLayout)
    (A : List ℕ → AnswerText → Type 0) (refusal : List ℕ → C → List ℕ) (message : C → List ℕ)
    (per_byte extra limit : ℕ) (before after : Outside) (end : TaskEnd) : Type 0 where
  pub rule : R
  pub first : LaidRefusals C
  pub last : LaidRefusals C
  pub fresh : IsFresh first.refusals
  pub run : HasLinesRun {R = laid.LaidOutLines R} (record { rule = rule; layout = layout }) (AnswersLaidOut layout A)
      (Returns (NotesLaidOut layout NoNote) (λ line. refusal (answered_line layout line))) (SawLaidOf recorded layout)
      per_byte extra limit before after end.status first last
  pub tells : Tells message last.refusals end.refusals

-- how the observer of refused lines without a carriage return changes
abbrev pub SawReturnedOf : RefusedLines → ℕ → List ℕ → Result (Unit {0}) Message → RefusedLines → Type 0
SawReturnedOf watch number line result then = SawReturned watch.refusals number line result then.refusals

abbrev pub message_of : Message → List ℕ
message_of message = message.text.now

pub record ReportsReturned {R : Type 0} (rule : R) (A : List ℕ → AnswerText → Type 0)
    (refusal : List ℕ → Message → List ℕ) (per_byte extra limit : ℕ) (before after : Outside)
    (end : TaskEnd) : Type 0 where
  pub first : RefusedLines
  pub last : RefusedLines
  pub fresh : IsFresh first.refusals
  pub run : HasLinesRun rule A (Returns NoNote refusal) SawReturnedOf per_byte extra limit before after end.status
      first last
  pub tells : Tells message_of last.refusals end.refusals

-- the rule of a question about lines
abbrev pub block_rule : Form → Question → BlockRule
block_rule form question = record { form = form; question = question }

-- the tally of no numerals
abbrev pub no_tally : Tally
no_tally = record {
  exact = 0;
  rounded = 0;
  overflowed = 0;
  refused = 0;
  first_overflowed = 0;
  first_refused = 0;
}

-- a report saw the lines of a run, and the end has its tally and its errors
pub record ReportsCounted (counted : CountedRule) (limit : ℕ) (before after : Outside) (end : TaskEnd) : Type 0 where
  pub first : LineReport
  pub last : LineReport
  pub fresh : IsFresh first.refusals
  pub no_numeral : first.tally ≡ no_tally
  pub no_error : HasReport counted.laid.rule.mode counted.laid.rule.radix counted.laid.rule.source [] first.errors.lost
      first.errors.greatest
  pub no_sums : HasSums counted.laid.rule.mode counted.laid.rule.radix counted.laid.rule.source [] first.errors.lost
      first.errors.sums
  pub run : HasLinesRun counted (IsLaidOut counted.laid.layout (IsReply counted.laid.rule))
      (Returns (IsLineOutcome counted.laid) message_text) (SawCounted counted.laid) reported_per_byte reported_extra
      limit before after end.status first last
  pub tells : Tells message_of last.refusals end.refusals
  pub tally : end.tally ≡ last.tally
  pub errors : end.errors ≡ Some last.errors

-- the end of a run over a whole input reports the line for which it was refused, by the meaning `A` of its answer
pub record ReportsWhole (A : List ℕ → AnswerText → Type 0) (before after : Outside) (end : TaskEnd) : Type 0 where
  pub refusal : Option WholeRefusal
  pub tells : TellsRefusal A before.left after.left end.status refusal
  pub count : end.refusals.count ≡ count_told refusal
  pub first : end.refusals.first ≡ first_told refusal

-- what the end of a task reports
abbrev pub TaskReports : Option ℕ → Task → Outside → Outside → TaskEnd → Type 0
TaskReports limit Lines before after end = ReportsRefused RespellRule respell.IsAnswer
    (refusal_text respell.fault_message) (refusal_message respell.fault_message) 8 624 (limit_of limit) before after end
TaskReports limit (Convert settings) before after end = ReportsReturned settings (IsLineReply settings) message_text 8
    624 (limit_of limit) before after end
TaskReports limit (LaidOut laid) before after end = ReportsReturned laid (IsLaidOut laid.layout (IsReply laid.rule))
    message_text 8 624 (limit_of limit) before after end
TaskReports limit (Reported counted) before after end = ReportsCounted counted (limit_of limit) before after end
TaskReports limit (Errors lines) before after end = ReportsReturned lines (IsErrorLine lines) message_text 11 1565
    (limit_of limit) before after end
TaskReports limit Enclose before after end = ReportsRefused EncloseRule enclose.IsAnswer
    (refusal_text enclose.fault_message) (refusal_message enclose.fault_message) 16 1248 (limit_of limit) before after
    end
TaskReports limit (LaidOutLines layout) before after end = ReportsLaid RespellRule (λ line. line) layout
    respell.IsAnswer (refusal_text respell.fault_message) (refusal_message respell.fault_message) 8 624 (limit_of limit)
    before after end
TaskReports limit (LaidOutEnclose layout) before after end = ReportsLaid EncloseRule (λ line. line) layout
    enclose.IsAnswer (refusal_text enclose.fault_message) (refusal_message enclose.fault_message) 16 1248
    (limit_of limit) before after end
TaskReports limit (Ask form question) before after end = ReportsReturned (block_rule form question)
    (IsLineBlock form question) (line_refusal form) 26 3307 (limit_of limit) before after end
TaskReports limit (LaidOutAsk form question layout) before after end = ReportsLaid BlockRule without_return layout
    (IsLineBlock form question) (line_refusal form) message_of 26 3307 (limit_of limit) before after end
TaskReports limit (Least rule) before after end = ReportsWhole (IsLeastWritten rule) before after end
TaskReports limit (LaidOutLeast rule layout) before after end = ReportsWhole
    (λ input. IsLeastWritten rule (laid_out (Some layout) input)) before after end
TaskReports limit (Constants rule) before after end = ReportsWhole (IsPlainAnswer (IsRenamedAnswer
    (constants.IsFormAnswer rule.form rule.guard.now))) before after end
TaskReports limit Columns before after end = ReportsWhole columns.IsWholeAnswer before after end
