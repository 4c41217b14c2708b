-- What the rejects get of the lines of a task.
use Rattle.std.specs.Prelude.{◌≡◌, ◌++◌, ℕ, List, [], ◌∷◌, None, Option, Result, Ok, Err, option_map, take}
use Rattle.fixed_enclose.specs.Answer as enclose
use Rattle.fixed_enclose.specs.declared.rule.EncloseRule.{EncloseRule}
use Rattle.fixed_respell.specs.Answer as respell
use Rattle.fixed_respell.specs.Refusal.{refusal_message, refusal_text}
use Rattle.fixed_respell.specs.declared.respell_rule.RespellRule.{RespellRule}
use Rattle.line_engine.specs.AnswerText.{AnswerText}
use Rattle.line_engine.specs.Lines.{kept_length}
use Rattle.line_engine.specs.Program.{Outside}
use Rattle.line_engine.specs.declared.status.Status.{Status}
use Rattle.line_rejects.specs.Rejects.{HasReject, IsRejectLine, Puts, sight_of}
use Rattle.line_rejects.specs.declared.rejects.Rejects.{Rejects}
use Rattle.run_engine.specs.LineRun.{HasLinesRun, SawAll, one_more}
use Rattle.run_engine.specs.Reply.{Returns}
use Rattle.fixed_command.specs.Convert.{IsLineReply, IsReply, without_return}
use Rattle.fixed_command.specs.Errors.{IsErrorLine}
use Rattle.fixed_command.specs.Layout.{AnswersLaidOut, IsLaidOut, LineLayout, NotesLaidOut, answered_line}
use Rattle.fixed_command.specs.Limits.{limit_of}
use Rattle.fixed_command.specs.Message.{message_text}
use Rattle.fixed_command.specs.Observed.{IsLineOutcome}
use Rattle.fixed_command.specs.Reports.{NoNote, message_of}
use Rattle.fixed_command.specs.Runs.{reported_extra, reported_per_byte}
use Rattle.fixed_command.specs.declared.laid_lines.LaidOutLines as laid
use Rattle.fixed_command.specs.declared.task.Task.{Task}
use Rattle.fixed_command.specs.declared.task.Task.TheVariants.{Ask, Columns, Constants, Convert, Enclose, Errors}
use Rattle.fixed_command.specs.declared.task.Task.TheVariants.{LaidOut, LaidOutAsk, LaidOutEnclose, LaidOutLeast}
use Rattle.fixed_command.specs.declared.task.Task.TheVariants.{LaidOutLines, Least, Lines, Reported}

-- the name of the input in rejects
abbrev pub name_of : {J : Type 0} → Rejects J → Option (List ℕ)
name_of rejects = option_map (λ n. n.now) rejects.name

-- how the rejects change with the result of a line: a refused one has a line in them, with what is shown of it
abbrev pub SawReject : {N C J : Type 0} → (J → Option (List ℕ)) → (J → ℕ) → (List ℕ → List ℕ) → (C → List ℕ)
    → Rejects J → ℕ → List ℕ → Result N C → Rejects J → Type 0
SawReject written failures shown message rejects number line (Ok note) then = then ≡ rejects
SawReject written failures shown message rejects number line (Err cause) then = HasReject (name_of rejects) number None
    (shown line) (message cause) (sight_of written failures rejects) (sight_of written failures then)
    × (then.name ≡ rejects.name)

-- the lines of rejects for lines with these results, which follow `count` others: one for each refused line, in order
abbrev pub AreRejects : {N C : Type 0} → (List ℕ → List ℕ) → (C → List ℕ) → Option (List ℕ) → ℕ → List (List ℕ)
    → List (Result N C) → List ℕ → Type 0
AreRejects shown message name count [] results text = text ≡ []
AreRejects shown message name count (line ∷ lines) [] text = ⊥
AreRejects shown message name count (line ∷ lines) (Ok note ∷ results) text = AreRejects shown message name
    (one_more count) lines results text
AreRejects shown message name count (line ∷ lines) (Err cause ∷ results) text = (told first more : List ℕ)
    × (take kept_length told ≡ take kept_length line)
    × IsRejectLine name (one_more count) None (shown told) (message cause) first
    × AreRejects shown message name (one_more count) lines results more × (text ≡ first ++ more)

-- rejects that saw these lines got their lines of rejects, and nothing else
abbrev pub RejectsAreTheLines : (N C : Type 0) → {J : Type 0} → (J → Option (List ℕ)) → (J → ℕ) → Rejects J → Type 0
RejectsAreTheLines N C {J = J} written failures first = (shown : List ℕ → List ℕ) (message : C → List ℕ)
    (count total : ℕ) (lines : List (List ℕ)) (results : List (Result N C)) (last : Rejects J)
    → SawAll (SawReject written failures shown message) first count lines results last total
    → (text : List ℕ) × AreRejects shown message (name_of first) count lines results text
    × Puts (sight_of written failures first) (sight_of written failures last) text

-- the rejects saw the lines of a run
abbrev pub RejectsRun : {R N C J : Type 0} → R → (List ℕ → AnswerText → Type 0) → (List ℕ → N → Type 0)
    → (List ℕ → C → List ℕ) → (List ℕ → List ℕ) → (C → List ℕ) → ℕ → ℕ → ℕ → (J → Option (List ℕ)) → (J → ℕ)
    → Outside → Outside → Status → Rejects J → Rejects J → Type 0
RejectsRun rule A Notes refusal shown message per_byte extra limit written failures before after status first last =
    HasLinesRun rule A (Returns Notes refusal) (SawReject written failures shown message) per_byte extra limit before
    after status first last

-- a line is shown as it is
abbrev pub as_it_is : List ℕ → List ℕ
as_it_is line = line

-- the rejects saw the lines of a run of a rule that only the kind of its lines names
abbrev pub RejectsNamed : (R : Type 0) → {C J : Type 0} → (List ℕ → AnswerText → Type 0) → (List ℕ → C → List ℕ)
    → (C → List ℕ) → ℕ → ℕ → ℕ → (J → Option (List ℕ)) → (J → ℕ) → Outside → Outside → Status → Rejects J
    → Rejects J → Type 0
RejectsNamed R A refusal message per_byte extra limit written failures before after status first last = (rule : R)
    × RejectsRun rule A NoNote refusal as_it_is message per_byte extra limit written failures before after status first
    last

-- the same for lines with a layout
abbrev pub RejectsLaid : (R : Type 0) → {C J : Type 0} → LineLayout → (List ℕ → AnswerText → Type 0)
    → (List ℕ → C → List ℕ) → (C → List ℕ) → ℕ → ℕ → ℕ → (J → Option (List ℕ)) → (J → ℕ) → Outside → Outside
    → Status → Rejects J → Rejects J → Type 0
RejectsLaid R layout A refusal message per_byte extra limit written failures before after status first last = (rule : R)
    × RejectsRun {R = laid.LaidOutLines R} (record { rule = rule; layout = layout }) (AnswersLaidOut layout A)
    (NotesLaidOut layout NoNote) (λ line. refusal (answered_line layout line)) (answered_line layout) message per_byte
    extra limit written failures before after status first last

-- what the rejects get of a task; they stay as they are for questions and for whole inputs
abbrev pub TaskRejects : {J : Type 0} → (J → Option (List ℕ)) → (J → ℕ) → Option ℕ → Task → Outside → Outside
    → Status → Rejects J → Rejects J → Type 0
TaskRejects written failures limit Lines before after status first last = RejectsNamed RespellRule respell.IsAnswer
    (refusal_text respell.fault_message) (refusal_message respell.fault_message) 8 624 (limit_of limit) written failures
    before after status first last
TaskRejects written failures limit (LaidOutLines layout) before after status first last = RejectsLaid RespellRule layout
    respell.IsAnswer (refusal_text respell.fault_message) (refusal_message respell.fault_message) 8 624 (limit_of limit)
    written failures before after status first last
TaskRejects written failures limit (Convert settings) before after status first last = RejectsRun settings (IsLineReply
    settings) NoNote message_text without_return message_of 8 624 (limit_of limit) written failures before after status
    first last
TaskRejects written failures limit (LaidOut laid) before after status first last = RejectsRun laid (IsLaidOut
    laid.layout (IsReply laid.rule)) NoNote message_text without_return message_of 8 624 (limit_of limit) written
    failures before after status first last
TaskRejects written failures limit (Reported counted) before after status first last = RejectsRun counted (IsLaidOut
    counted.laid.layout (IsReply counted.laid.rule)) (IsLineOutcome counted.laid) message_text without_return message_of
    reported_per_byte reported_extra (limit_of limit) written failures before after status first last
TaskRejects written failures limit (Errors lines) before after status first last = RejectsRun lines (IsErrorLine lines)
    NoNote message_text without_return message_of 11 1565 (limit_of limit) written failures before after status first
    last
TaskRejects written failures limit Enclose before after status first last = RejectsNamed EncloseRule enclose.IsAnswer
    (refusal_text enclose.fault_message) (refusal_message enclose.fault_message) 16 1248 (limit_of limit) written
    failures before after status first last
TaskRejects written failures limit (LaidOutEnclose layout) before after status first last = RejectsLaid EncloseRule
    layout enclose.IsAnswer (refusal_text enclose.fault_message) (refusal_message enclose.fault_message) 16 1248
    (limit_of limit) written failures before after status first last
TaskRejects written failures limit (Ask form question) before after status first last = last ≡ first
TaskRejects written failures limit (LaidOutAsk form question layout) before after status first last = last ≡ first
TaskRejects written failures limit (Least rule) before after status first last = last ≡ first
TaskRejects written failures limit (LaidOutLeast rule layout) before after status first last = last ≡ first
TaskRejects written failures limit (Constants rule) before after status first last = last ≡ first
TaskRejects written failures limit Columns before after status first last = last ≡ first
