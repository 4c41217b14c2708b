-- The job that the words of `fixed unpack` ask for.
use Rattle.std.specs.Prelude.{◌≡◌, ◌⊎◌, ◌≤◌, ℕ, None, Option, Some, codes}
use Rattle.command_line.specs.Words.{keyword_at, value_of, word_at}
use Rattle.command_line.specs.declared.given.Given.{Given}
use Rattle.fixed_command.specs.Asked.{IsNamed, IsPrintNamed}
use Rattle.fixed_command.specs.declared.convert.Settings.{Settings}
use Rattle.fixed_command.specs.declared.print.Print.{Print}
use Rattle.fixed_float.specs.declared.layout.FloatLayout.{FloatLayout}
use Rattle.fixed_pack.specs.declared.amounts.UnpackAmounts.{UnpackAmounts}
use Rattle.fixed_pack.specs.declared.endian.Endian.{Endian}
use Rattle.fixed_pack.specs.declared.endian.Endian.TheVariants.{Little}
use Rattle.fixed.specs.Amounts.{IsDecimalAsked, IsNoTarget, NamesNoDecimal, amount_print}
use Rattle.fixed.specs.Convert.{IsConversionAsked}
use Rattle.fixed.specs.Settings.{IsExcerptAsked, endian_text, floats_text}
use Rattle.fixed.specs.declared.commands.unpack.Written.{Written}
use Rattle.fixed.specs.declared.commands.unpack.Written.TheVariants as written
use Rattle.fixed.specs.declared.commands.unpack_words.Excerpt.{Excerpt}
use Rattle.fixed.specs.declared.inputs.Job.{Job}
use Rattle.fixed.specs.declared.inputs.Job.TheVariants as job

-- there is no target, and no option is given that has a meaning only for lines
pub record HasFloatsAlone (given : Given) (files : ℕ) : Type 0 where
  pub target : files ≤ 1
  pub policy : value_of given (codes "policy") ≡ None
  pub target_mode : value_of given (codes "target-mode") ≡ None
  pub print : value_of given (codes "print") ≡ None
  pub places : value_of given (codes "places") ≡ None
  pub places_mode : value_of given (codes "places-mode") ≡ None

-- words that count units of a decimal format are unpacked so: there is no target, and no word is rounded or out of
-- range
pub record AreAmountsUnpacked (given : Given) (format : ℕ) (amounts : UnpackAmounts) : Type 0 where
  pub target : IsNoTarget (keyword_at given 1)
  pub floats : IsNamed (Option FloatLayout) floats_text None (value_of given (codes "to")) None
  pub policy : value_of given (codes "policy") ≡ None
  pub target_mode : value_of given (codes "target-mode") ≡ None
  pub places : value_of given (codes "places") ≡ None
  pub places_mode : value_of given (codes "places-mode") ≡ None
  pub format_is : amounts.format ≡ format
  pub prints : Print
  pub is_print : IsPrintNamed (value_of given (codes "print")) prints
  pub print_is : amounts.print ≡ amount_print prints
  pub endian : IsNamed Endian endian_text Little (value_of given (codes "endian")) amounts.endian

-- a line is written for each word, by a conversion, or the nearest float
abbrev pub IsWrittenBy : Option FloatLayout → Given → Settings → ℕ → Endian → Written → Type 0
IsWrittenBy None given s files endian asked = asked ≡ written.Lines (record { settings = s; endian = endian })
IsWrittenBy (Some layout) given s files endian asked = HasFloatsAlone given files
    × (asked ≡ written.Floats (record { format = s.source; layout = layout; endian = endian }))

-- what is written for each word, by a conversion; `files` is the index of the first file
pub record AreWordsUnpacked (given : Given) (s : Settings) (files : ℕ) (asked : Written) : Type 0 where
  pub floats : Option FloatLayout
  pub are_floats : IsNamed (Option FloatLayout) floats_text None (value_of given (codes "to")) floats
  pub endian : Endian
  pub is_endian : IsNamed Endian endian_text Little (value_of given (codes "endian")) endian
  pub written_by : IsWrittenBy floats given s files endian asked

-- what is written for each word of a binary format, and the index of the first file
pub record IsBinaryWritten (given : Given) (asked : Written) (files : ℕ) : Type 0 where
  pub target : NamesNoDecimal (keyword_at given 1)
  pub settings : Settings
  pub are_settings : IsConversionAsked given 0 settings files
  pub are_words : AreWordsUnpacked given settings files asked

-- the same for this decimal format
pub record IsAmountWritten (given : Given) (format : ℕ) (asked : Written) (files : ℕ) : Type 0 where
  pub amounts : UnpackAmounts
  pub are_amounts : AreAmountsUnpacked given format amounts
  pub written_is : asked ≡ written.Amounts amounts
  pub files_is : files ≡ 1

-- the same for the format that the first operand names
abbrev pub IsWrittenAsked : Given → Written → ℕ → Type 0
IsWrittenAsked given asked files =
    ((format : ℕ) × IsDecimalAsked (word_at given 0) format × IsAmountWritten given format asked files)
    ⊎ (NamesNoDecimal (word_at given 0) × IsBinaryWritten given asked files)

-- the job for each input, and the index of the first file
pub record IsUnpackAsked (given : Given) (asked : Job) (files : ℕ) : Type 0 where
  pub written : Written
  pub is_written : IsWrittenAsked given written files
  pub excerpt : Excerpt
  pub is_excerpt : IsExcerptAsked given excerpt
  pub job_is : asked ≡ job.Unpack (record { excerpt = excerpt; written = written })
