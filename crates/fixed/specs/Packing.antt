-- The job that the words of `fixed pack` ask for.
use Rattle.std.specs.Prelude.{◌≡◌, ◌⊎◌, ℕ, None, Option, codes, false}
use Rattle.command_line.specs.Words.{value_of, word_at}
use Rattle.command_line.specs.declared.given.Given.{Given}
use Rattle.fixed_bits.specs.Formats.{FormatParts}
use Rattle.fixed_bits.specs.declared.format.Policy.{Policy}
use Rattle.fixed_bits.specs.declared.format.Policy.TheVariants.{Checked}
use Rattle.fixed_bits.specs.declared.mode.ReadMode.{ReadMode}
use Rattle.fixed_bits.specs.declared.mode.ReadMode.TheVariants.{NearestEven}
use Rattle.fixed_command.specs.Asked.{IsNamed}
use Rattle.fixed_command.specs.Layout.{LineLayout}
use Rattle.fixed_float.specs.declared.layout.FloatLayout.{FloatLayout}
use Rattle.fixed_numeral.specs.declared.radix.Radix.{Radix}
use Rattle.fixed_numeral.specs.declared.radix.Radix.TheVariants.{Dec}
use Rattle.fixed_pack.specs.declared.amounts.PackAmounts.{PackAmounts}
use Rattle.fixed_pack.specs.declared.bits.PackBits.{PackBits}
use Rattle.fixed_pack.specs.declared.endian.Endian.{Endian}
use Rattle.fixed_pack.specs.declared.endian.Endian.TheVariants.{Little}
use Rattle.fixed_pack.specs.declared.float_words.FloatWords.{FloatWords}
use Rattle.fixed_pack.specs.declared.pack.PackSettings.{PackSettings}
use Rattle.fixed_respell.specs.Words.{mode_text, policy_text, radix_text}
use Rattle.fixed.specs.Amounts.{AreUnitBitsAsked, IsAmountPackAsked, IsDecimalAsked, NamesNoDecimal}
use Rattle.fixed.specs.Lines.{IsFormatAsked, IsLayoutIfAsked, has_layout}
use Rattle.fixed.specs.Pack.{AreBitsAsked}
use Rattle.fixed.specs.Reports.{form_named}
use Rattle.fixed.specs.Settings.{endian_text, pack_input_text}
use Rattle.fixed.specs.declared.commands.pack.LinesRule.{LinesRule}
use Rattle.fixed.specs.declared.commands.pack.LinesRule.TheVariants as rule
use Rattle.fixed.specs.declared.inputs.Job.{Job}
use Rattle.fixed.specs.declared.inputs.Job.TheVariants as job
use Rattle.fixed.specs.declared.settings.PackInput.{PackInput}
use Rattle.fixed.specs.declared.settings.PackInput.TheVariants.{Bits, Floats, Numerals}

-- the job that packs lines by a rule, with a layout if one is given
pub record IsLinesJob (given : Given) (by : LinesRule) (asked : Job) : Type 0 where
  pub layout : Option LineLayout
  pub is_layout : IsLayoutIfAsked given layout
  pub job_is : asked ≡ job.Pack (record { rule = by; layout = layout })

-- numerals are packed so: no report is written
pub record AreNumeralsPacked (given : Given) (format : FormatParts) (p : PackSettings) : Type 0 where
  pub report : value_of given (codes "report") ≡ None
  pub radix : IsNamed Radix radix_text Dec (value_of given (codes "radix")) p.radix
  pub format_is : p.format ≡ format
  pub policy : IsNamed Policy policy_text Checked (value_of given (codes "policy")) p.policy
  pub mode : IsNamed ReadMode mode_text NearestEven (value_of given (codes "mode")) p.mode
  pub endian : IsNamed Endian endian_text Little (value_of given (codes "endian")) p.endian

-- floats are packed so: they are not lines, and have no radix
pub record AreFloatsPacked (given : Given) (format : FormatParts) (layout : FloatLayout) (f : FloatWords) : Type 0 where
  pub radix : value_of given (codes "radix") ≡ None
  pub lines : has_layout given ≡ false
  pub layout_is : f.layout ≡ layout
  pub format_is : f.format ≡ format
  pub policy : IsNamed Policy policy_text Checked (value_of given (codes "policy")) f.policy
  pub mode : IsNamed ReadMode mode_text NearestEven (value_of given (codes "mode")) f.mode
  pub endian : IsNamed Endian endian_text Little (value_of given (codes "endian")) f.endian

-- the job for a binary format, by what the input is
abbrev pub IsBinaryPackBy : PackInput → Given → FormatParts → Job → Type 0
IsBinaryPackBy Numerals given format asked = (p : PackSettings) × AreNumeralsPacked given format p
    × IsLinesJob given (rule.Numerals p) asked
IsBinaryPackBy Bits given format asked = (p : PackBits) × AreBitsAsked given format p
    × IsLinesJob given (rule.Bits p) asked
IsBinaryPackBy (Floats layout) given format asked = (f : FloatWords) × AreFloatsPacked given format layout f
    × (asked ≡ job.PackFloats f (form_named (value_of given (codes "report"))))

pub record IsBinaryPack (given : Given) (asked : Job) : Type 0 where
  pub format : FormatParts
  pub is_format : IsFormatAsked (word_at given 0) format
  pub input : PackInput
  pub is_input : IsNamed PackInput pack_input_text Numerals (value_of given (codes "from")) input
  pub is_job : IsBinaryPackBy input given format asked

-- the job for a decimal format, whose words count units: floats are refused
abbrev pub IsAmountPackBy : PackInput → Given → ℕ → Job → Type 0
IsAmountPackBy Numerals given format asked = (p : PackAmounts) × IsAmountPackAsked given format p
    × IsLinesJob given (rule.Amounts p) asked
IsAmountPackBy Bits given format asked = (p : PackBits) × AreUnitBitsAsked given p
    × IsLinesJob given (rule.Bits p) asked
IsAmountPackBy (Floats layout) given format asked = ⊥

pub record IsAmountPack (given : Given) (format : ℕ) (asked : Job) : Type 0 where
  pub input : PackInput
  pub is_input : IsNamed PackInput pack_input_text Numerals (value_of given (codes "from")) input
  pub is_job : IsAmountPackBy input given format asked

-- the job, by the format that the first operand names
abbrev pub IsPackAsked : Given → Job → Type 0
IsPackAsked given asked = ((format : ℕ) × IsDecimalAsked (word_at given 0) format × IsAmountPack given format asked)
    ⊎ (NamesNoDecimal (word_at given 0) × IsBinaryPack given asked)
