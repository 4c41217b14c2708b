-- The meaning of the operands and options of `fixed json`.
use Rattle.std.specs.Prelude.{◌≡◌, ◌⊎◌, ℕ, Bool, List, Option, Some, codes, false, map, true}
use Rattle.column_engine.specs.First.{first_after}
use Rattle.column_engine.specs.Seen.{SawIfAny}
use Rattle.command_line.specs.Words.{has_flag, keyword_at, value_of, word_at}
use Rattle.command_line.specs.declared.given.Given.{Given}
use Rattle.fixed_amounts.specs.declared.settings.AmountPrint.{AmountPrint}
use Rattle.fixed_amounts.specs.declared.settings.AmountPrint.TheVariants as amounts
use Rattle.fixed_amounts.specs.declared.settings.AmountSettings.{AmountSettings}
use Rattle.fixed_command.specs.Convert.{IsLineReply, without_return}
use Rattle.fixed_command.specs.FieldRejects.{SawFieldReject}
use Rattle.fixed_command.specs.FieldReports.{SawField}
use Rattle.fixed_command.specs.Fields.{IsFieldReply}
use Rattle.fixed_command.specs.Limits.{limit_of}
use Rattle.fixed_command.specs.declared.convert.Settings.{Settings}
use Rattle.fixed_command.specs.declared.field.FieldNumerals.{FieldNumerals}
use Rattle.fixed_command.specs.declared.refused_fields.RefusedFields.{RefusedFields}
use Rattle.fixed_command.specs.declared.print.Print.{Print}
use Rattle.fixed_command.specs.declared.print.Print.TheVariants.{All, Bits, Hex, Places, Readmemh, Text, Value}
use Rattle.fixed_amounts.specs.Reply.{IsReply}
use Rattle.fixed_numeral.specs.declared.radix.Radix.{Radix}
use Rattle.fixed_numeral.specs.declared.radix.Radix.TheVariants.{Dec}
use Rattle.json_lines.specs.Path.{PathStep, path_steps, step_of}
use Rattle.json_lines.specs.Run.{HasJsonRun}
use Rattle.json_lines.specs.Told.{Sight, Told}
use Rattle.json_lines.specs.declared.task.Form.{Form}
use Rattle.json_lines.specs.declared.task.JsonTask.{JsonTask}
use Rattle.line_engine.specs.AnswerText.{AnswerText}
use Rattle.line_engine.specs.Program.{Outside}
use Rattle.line_engine.specs.declared.status.Status.{Status}
use Rattle.line_engine.specs.declared.status.Status.TheVariants.{NoMemory}
use Rattle.line_rejects.specs.declared.rejects.Rejects.{Rejects}
use Rattle.fixed.specs.Amounts.{IsAmountAsked, IsBySource, IsNoTarget, NamesNoDecimal}
use Rattle.fixed.specs.Columns.{IsFormAsked}
use Rattle.fixed.specs.Convert.{IsConversionAsked}
use Rattle.fixed.specs.Inputs.{EndsBetween, RunsBetween}
use Rattle.fixed.specs.Lines.{IsLayoutAsked}
use Rattle.fixed.specs.Reports.{form_named}
use Rattle.fixed.specs.declared.commands.json.JsonJob.{JsonJob}
use Rattle.fixed.specs.declared.commands.json.ValueRule.{ValueRule}
use Rattle.fixed.specs.declared.commands.json.ValueRule.TheVariants as value

-- the path, by the first operand
pub record IsPathAsked (given : Given) (steps : List PathStep) : Type 0 where
  pub text : List ℕ
  pub word : word_at given 0 ≡ Some text
  pub is : path_steps text ≡ Some steps

-- whether a part of an answer is written as a string: it is not always a number of JSON
abbrev pub is_quoted : Print → Bool
is_quoted Text = false
is_quoted (Places count mode) = false
is_quoted Value = false
is_quoted Bits = false
is_quoted Hex = true
is_quoted Readmemh = true
is_quoted All = true

-- the same for a part of an amount
abbrev pub is_quoted_amount : AmountPrint → Bool
is_quoted_amount amounts.Text = false
is_quoted_amount amounts.Units = false
is_quoted_amount amounts.Hex = true
is_quoted_amount amounts.HexDigits = true
is_quoted_amount amounts.All = true

-- how the values of a job are exchanged and which lines stay
pub record IsFormOf (job : JsonJob) (form : Form) : Type 0 where
  pub quotes : form.quotes ≡ job.quotes
  pub keeps : form.keeps ≡ job.keeps
  pub layout : form.layout.now ≡ job.layout

-- a value is converted into an amount of this decimal format, which has no target; whether every reply is written as a
-- string, and the index of the first file
pub record IsAmountRuleAsked (given : Given) (format : ℕ) (rule : ValueRule) (quotes : Bool) (files : ℕ) : Type 0 where
  pub target : IsNoTarget (keyword_at given 2)
  pub settings : AmountSettings
  pub are_settings : IsAmountAsked given format settings
  pub rule_is : rule ≡ value.Amount settings
  pub quotes_is : quotes ≡ is_quoted_amount settings.print
  pub files_is : files ≡ 2

-- the same for a conversion into a binary format
pub record IsBinaryRuleAsked (given : Given) (rule : ValueRule) (quotes : Bool) (files : ℕ) : Type 0 where
  pub target : NamesNoDecimal (keyword_at given 2)
  pub settings : Settings
  pub are_settings : IsConversionAsked given 1 settings files
  pub rule_is : rule ≡ value.Binary settings
  pub quotes_is : quotes ≡ is_quoted settings.print

-- the same for the format that the second operand names
abbrev pub IsRuleAsked : Given → ValueRule → Bool → ℕ → Type 0
IsRuleAsked given rule quotes files = IsBySource (word_at given 1)
    (λ format. IsAmountRuleAsked given format rule quotes files) (IsBinaryRuleAsked given rule quotes files)

-- the job for each input, and the index of the first file
pub record IsJsonJobAsked (given : Given) (asked : JsonJob) (files : ℕ) : Type 0 where
  pub path : IsPathAsked given (map step_of asked.steps.items)
  pub layout : IsLayoutAsked given asked.layout
  pub spelling : IsFormAsked given asked.spelling
  pub rule : IsRuleAsked given asked.rule asked.quotes files
  pub keeps : asked.keeps ≡ has_flag given (codes "keep")
  pub report : asked.report ≡ form_named (value_of given (codes "report"))

-- ---- the run
-- the rule, the path and the form of a task are those of a job
pub record IsTaskOf {R : Type 0} (job : JsonJob) (rule : R) (task : JsonTask R) : Type 0 where
  pub rule_is : task.rule.now ≡ rule
  pub path : task.steps.now ≡ job.steps.items
  pub form : IsFormOf job task.form

-- an observer that keeps the first refused value and puts a line of rejects for each, and tells another observer
abbrev pub keeps_refused : {W J : Type 0} → (J → Option (List ℕ)) → (J → ℕ) → Sight W → Sight (RefusedFields W J)
keeps_refused written failures Saw values place value reply then =
    (then.first.field ≡ first_after values.first.field place value reply)
    × SawFieldReject written failures values.rejects place value reply then.rejects
    × Saw values.watch place value reply then.watch

-- a run over the lines of an input by a rule for their values, of which an observer is told, and whose rejects go on
-- from these; or there was no memory for it, and nothing was read or written
pub record RunsJson {R W J : Type 0} (A : R → List ℕ → AnswerText → Type 0) (Saw : R → Sight W) (limit : ℕ)
    (job : JsonJob) (rule : R) (rejects : Rejects J) (status : Status) (before after : Outside) : Type 0 where
  pub task : JsonTask R
  pub is_task : IsTaskOf job rule task
  pub written : J → Option (List ℕ)
  pub failures : J → ℕ
  pub watch : RefusedFields W J
  pub goes_on : watch.rejects ≡ rejects
  pub last : Told (RefusedFields W J)
  pub run : HasJsonRun A (λ rule. keeps_refused written failures (Saw rule)) limit task before after status watch last
      ⊎ ((status ≡ NoMemory) × (after.left ≡ before.left) × (after.written ≡ before.written))

-- numerals are converted by this rule, in this radix, and spelled as a job says
pub record AreNumeralsOf {R : Type 0} (job : JsonJob) (rule : R) (radix : Radix) (numerals : FieldNumerals R) : Type 0
  where
    pub rule_is : numerals.rule.now ≡ rule
    pub radix_is : numerals.radix ≡ radix
    pub form_is : numerals.form.now ≡ job.spelling

-- the reply to a value whose numeral has the reply that `A` says
abbrev pub answers_values : {R : Type 0} → (R → List ℕ → AnswerText → Type 0) → FieldNumerals R → List ℕ → AnswerText
    → Type 0
answers_values A numerals = IsFieldReply numerals.form.now numerals.radix (A numerals.rule.now)

-- the run of a job, by its rule; for a binary format a report, if there is one, notes each value
abbrev pub JsonRunsBy : {J : Type 0} → ValueRule → ℕ → JsonJob → Rejects J → Status → Outside → Outside → Type 0
JsonRunsBy (value.Binary settings) limit job rejects status before after = (numerals : FieldNumerals Settings)
    × AreNumeralsOf job settings settings.radix numerals
    × RunsJson (answers_values IsLineReply) (λ rule watch place value reply then. SawIfAny (λ old new. SawField
    rule.form.now rule.rule.now old place value reply new) watch then) limit job numerals rejects status before after
JsonRunsBy (value.Amount settings) limit job rejects status before after = (numerals : FieldNumerals AmountSettings)
    × AreNumeralsOf job settings Dec numerals
    × RunsJson {W = Unit {0}} (answers_values (λ s line. IsReply s (without_return line)))
    (λ rule watch place value reply then. Unit {0}) limit job numerals rejects status before after

-- a job over an input within a limit, by whether a write of its rejects failed
abbrev pub JsonEndsBetween : {J : Type 0} → Bool → Option ℕ → JsonJob → Rejects J → Status → Option (List ℕ)
    → Option (List ℕ) → Option (List ℕ) → Type 0
JsonEndsBetween failed limit job rejects = EndsBetween (λ status. RunsBetween (JsonRunsBy job.rule (limit_of limit) job
    rejects status)) failed
