-- The meaning of the operands and options of `fixed convert`.
use Rattle.std.specs.Prelude.{◌≡◌, ◌&&◌, ℕ, Bool, None, Option, Some, codes, false, is_none, is_some, nat_lt, true}
use Rattle.command_line.specs.Words.{has_flag, keyword_at, value_of, word_at}
use Rattle.command_line.specs.declared.given.Given.{Given}
use Rattle.fixed_bits.specs.declared.format.Policy.{Policy}
use Rattle.fixed_bits.specs.declared.format.Policy.TheVariants.{Checked}
use Rattle.fixed_bits.specs.declared.mode.ReadMode.{ReadMode}
use Rattle.fixed_bits.specs.declared.mode.ReadMode.TheVariants.{Floor, NearestEven}
use Rattle.fixed_command.specs.Asked.{IsNamed, spelling_text}
use Rattle.fixed_command.specs.Layout.{LineLayout}
use Rattle.fixed_command.specs.declared.convert.Settings.{Settings}
use Rattle.fixed_command.specs.declared.spelling.Spelling.{Spelling}
use Rattle.fixed_command.specs.declared.spelling.Spelling.TheVariants.{Numeral}
use Rattle.fixed_command.specs.declared.task.Task.{Task}
use Rattle.fixed_command.specs.declared.task.Task.TheVariants as task
use Rattle.fixed_numeral.specs.declared.radix.Radix.{Radix}
use Rattle.fixed_numeral.specs.declared.radix.Radix.TheVariants.{Dec}
use Rattle.fixed_respell.specs.Words.{mode_text, policy_text, radix_text}
use Rattle.fixed_words.specs.declared.rule.WordRule.{WordRule}
use Rattle.line_engine.specs.Memory.{next_count}
use Rattle.fixed.specs.Lines.{IsFormatAsked, IsLayoutAsked, IsTargetAsked, has_layout}
use Rattle.fixed.specs.Reports.{form_named}
use Rattle.fixed.specs.Settings.{IsPrintAsked}
use Rattle.fixed.specs.Words.{IsWordRuleAsked}
use Rattle.fixed.specs.declared.inputs.Job.{Job}
use Rattle.fixed.specs.declared.inputs.Job.TheVariants as job
use Rattle.fixed.specs.declared.reports.ReportForm.{ReportForm}

-- the operands from index `place` on and the options request this conversion; `files` is the index of the first file
pub record IsConversionAsked (given : Given) (place : ℕ) (s : Settings) (files : ℕ) : Type 0 where
  pub source : IsFormatAsked (word_at given place) s.source
  pub target : IsTargetAsked (keyword_at given (next_count place)) s.source (next_count place) s.target files
  pub spelling : IsNamed Spelling spelling_text Numeral (value_of given (codes "from")) s.spelling
  pub radix : IsNamed Radix radix_text Dec (value_of given (codes "radix")) s.radix
  pub policy : IsNamed Policy policy_text Checked (value_of given (codes "policy")) s.policy
  pub mode : IsNamed ReadMode mode_text NearestEven (value_of given (codes "mode")) s.mode
  pub target_mode : IsNamed ReadMode mode_text Floor (value_of given (codes "target-mode")) s.target_mode
  pub print : IsPrintAsked (value_of given (codes "print")) (value_of given (codes "places"))
      (value_of given (codes "places-mode")) s.print

-- no option is given that has a meaning only for words
pub record HasNoWordOption (given : Given) : Type 0 where
  pub separators : value_of given (codes "separators") ≡ None
  pub refused : value_of given (codes "refused") ≡ None
  pub keep : value_of given (codes "keep") ≡ None

-- words are converted where they stand; separators stay, so there are no comments
pub record IsWordsAsked (given : Given) (s : Settings) (asked : Job) : Type 0 where
  pub comments : value_of given (codes "comments") ≡ None
  pub words : WordRule
  pub are_words : IsWordRuleAsked given words
  pub settings : words.rule ≡ s
  pub job_is : asked ≡ job.Words words (form_named (value_of given (codes "report")))

-- lines of only numerals or, with a report or an option of a layout, lines with a layout
abbrev pub IsTaskBy : Bool → Bool → Given → Settings → Task → Type 0
IsTaskBy true laid given s asked = (l : LineLayout) × IsLayoutAsked given l
    × (asked ≡ task.Reported (record { laid = record { rule = s; layout = l } }))
IsTaskBy false true given s asked = (l : LineLayout) × IsLayoutAsked given l
    × (asked ≡ task.LaidOut (record { rule = s; layout = l }))
IsTaskBy false false given s asked = asked ≡ task.Convert s

-- the task for each input
abbrev pub IsTaskAsked : Given → Settings → Task → Type 0
IsTaskAsked given = IsTaskBy (is_some (value_of given (codes "report"))) (has_layout given) given

-- the job that does a task, with a report if one is asked for
abbrev pub lines_job : Option ReportForm → Task → Job
lines_job None task = job.Task task
lines_job (Some form) task = job.Reported task form

-- the job for lines
pub record IsLinesAsked (given : Given) (s : Settings) (asked : Job) : Type 0 where
  pub alone : HasNoWordOption given
  pub lines : Task
  pub are_lines : IsTaskAsked given s lines
  pub job_is : asked ≡ lines_job (form_named (value_of given (codes "report"))) lines

-- the job for each input: for words with `--words`, else for lines
abbrev pub IsJobBy : Bool → Given → Settings → Job → Type 0
IsJobBy true = IsWordsAsked
IsJobBy false = IsLinesAsked

abbrev pub IsJobAsked : Given → Settings → Job → Type 0
IsJobAsked given = IsJobBy (has_flag given (codes "words")) given

-- whether a target and a mode are given, and no mode for the target: then the move rounds down
abbrev pub lacks_target_mode : Given → ℕ → ℕ → Bool
lacks_target_mode given place files = (nat_lt (next_count place) files
    && is_some (value_of given (codes "mode"))) && is_none (value_of given (codes "target-mode"))
