-- The meaning of the operands and options of `fixed convert --print error` and `--print ulps`.
use Rattle.std.specs.Prelude.{◌≡◌, ◌≢◌, List, ℕ, None, Option, Some, codes, false}
use Rattle.command_line.specs.Words.{has_flag, keyword_at, value_of, word_at}
use Rattle.command_line.specs.declared.given.Given.{Given}
use Rattle.fixed_bits.specs.declared.format.Policy.{Policy}
use Rattle.fixed_bits.specs.declared.format.Policy.TheVariants.{Checked}
use Rattle.fixed_bits.specs.declared.mode.ReadMode.{ReadMode}
use Rattle.fixed_bits.specs.declared.mode.ReadMode.TheVariants.{NearestEven}
use Rattle.fixed_command.specs.Asked.{IsNamed}
use Rattle.fixed_command.specs.Layout.{LineLayout}
use Rattle.fixed_command.specs.declared.error_lines.ErrorSettings.{ErrorSettings}
use Rattle.fixed_command.specs.declared.task.Task.{Task}
use Rattle.fixed_command.specs.declared.task.Task.TheVariants as task
use Rattle.fixed_numeral.specs.declared.radix.Radix.{Radix}
use Rattle.fixed_numeral.specs.declared.radix.Radix.TheVariants.{Dec}
use Rattle.fixed_respell.specs.Words.{mode_text, policy_text, radix_text}
use Rattle.fixed_show.specs.declared.measure.Measure.{Measure}
use Rattle.fixed_show.specs.declared.measure.Measure.TheVariants.{Ulps, Value}
use Rattle.fixed.specs.Amounts.{IsNoTarget, NamesNoDecimal}
use Rattle.fixed.specs.Lines.{IsFormatAsked, IsLayoutAsked}

-- the value for an error by a measure
abbrev pub measure_text : Measure → List ℕ
measure_text Value = codes "error"
measure_text Ulps = codes "ulps"

-- the operands and the options request these errors, by this measure
pub record AreErrorsAsked (given : Given) (measure : Measure) (s : ErrorSettings) : Type 0 where
  pub format : IsFormatAsked (word_at given 0) s.format
  pub radix : IsNamed Radix radix_text Dec (value_of given (codes "radix")) s.radix
  pub policy : IsNamed Policy policy_text Checked (value_of given (codes "policy")) s.policy
  pub mode : IsNamed ReadMode mode_text NearestEven (value_of given (codes "mode")) s.mode
  pub measure_is : s.measure ≡ measure

-- the value requests errors, by this measure
abbrev pub IsMeasureAsked : Option (List ℕ) → Measure → Type 0
IsMeasureAsked None measure = ⊥
IsMeasureAsked (Some word) measure = word ≡ measure_text measure

-- nothing is there that means nothing for errors: a target, bits in place of numerals, places, words or a report
pub record HasErrorsAlone (given : Given) : Type 0 where
  pub target : IsNoTarget (keyword_at given 1)
  pub from : value_of given (codes "from") ≢ Some (codes "bits")
  pub places : value_of given (codes "places") ≡ None
  pub places_mode : value_of given (codes "places-mode") ≡ None
  pub target_mode : value_of given (codes "target-mode") ≡ None
  pub separators : value_of given (codes "separators") ≡ None
  pub refused : value_of given (codes "refused") ≡ None
  pub keep : value_of given (codes "keep") ≡ None
  pub words : has_flag given (codes "words") ≡ false
  pub report : value_of given (codes "report") ≡ None

-- the task that writes these errors, by this measure; a decimal format has none
pub record IsErrorTaskAsked (given : Given) (measure : Measure) (asked : Task) : Type 0 where
  pub binary : NamesNoDecimal (word_at given 0)
  pub alone : HasErrorsAlone given
  pub settings : ErrorSettings
  pub are_settings : AreErrorsAsked given measure settings
  pub layout : LineLayout
  pub is_layout : IsLayoutAsked given layout
  pub task_is : asked ≡ task.Errors (record { settings = settings; layout = layout })
