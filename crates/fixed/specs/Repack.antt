-- The job that the words of `fixed repack` ask for.
use Rattle.std.specs.Prelude.{◌≡◌, codes}
use Rattle.command_line.specs.Words.{value_of, word_at}
use Rattle.command_line.specs.declared.given.Given.{Given}
use Rattle.fixed_bits.specs.declared.format.Policy.{Policy}
use Rattle.fixed_bits.specs.declared.format.Policy.TheVariants.{Checked}
use Rattle.fixed_bits.specs.declared.mode.ReadMode.{ReadMode}
use Rattle.fixed_bits.specs.declared.mode.ReadMode.TheVariants.{Floor}
use Rattle.fixed_command.specs.Asked.{IsNamed}
use Rattle.fixed_pack.specs.declared.endian.Endian.{Endian}
use Rattle.fixed_pack.specs.declared.endian.Endian.TheVariants.{Little}
use Rattle.fixed_pack.specs.declared.repack.Repack.{Repack}
use Rattle.fixed_respell.specs.Words.{mode_text, policy_text}
use Rattle.fixed.specs.Lines.{IsFormatAsked}
use Rattle.fixed.specs.Reports.{form_named}
use Rattle.fixed.specs.Settings.{endian_text}
use Rattle.fixed.specs.declared.inputs.Job.{Job}
use Rattle.fixed.specs.declared.inputs.Job.TheVariants as job

-- how a word is written in another format: in the order of the bytes that are read, if no other is given
pub record IsRepackNamed (given : Given) (words : Repack) : Type 0 where
  pub source : IsFormatAsked (word_at given 0) words.source
  pub target : IsFormatAsked (word_at given 1) words.target
  pub policy : IsNamed Policy policy_text Checked (value_of given (codes "policy")) words.policy
  pub target_mode : IsNamed ReadMode mode_text Floor (value_of given (codes "target-mode")) words.target_mode
  pub endian : IsNamed Endian endian_text Little (value_of given (codes "endian")) words.endian
  pub endian_out : IsNamed Endian endian_text words.endian (value_of given (codes "endian-out")) words.endian_out

-- the job for each input
pub record IsRepackAsked (given : Given) (asked : Job) : Type 0 where
  pub words : Repack
  pub are_words : IsRepackNamed given words
  pub job_is : asked ≡ job.Repack words (form_named (value_of given (codes "report")))
