-- What the words of a command ask for that packs words of bits.
use Rattle.std.specs.Prelude.{◌≡◌, None, codes}
use Rattle.command_line.specs.Words.{value_of}
use Rattle.command_line.specs.declared.given.Given.{Given}
use Rattle.fixed_bits.specs.Formats.{FormatParts}
use Rattle.fixed_command.specs.Asked.{IsNamed}
use Rattle.fixed_numeral.specs.declared.radix.Radix.{Radix}
use Rattle.fixed_numeral.specs.declared.radix.Radix.TheVariants.{Dec}
use Rattle.fixed_pack.specs.declared.bits.PackBits.{PackBits}
use Rattle.fixed_pack.specs.declared.endian.Endian.{Endian}
use Rattle.fixed_pack.specs.declared.endian.Endian.TheVariants.{Little}
use Rattle.fixed_respell.specs.Words.{radix_text}
use Rattle.fixed.specs.Settings.{endian_text}

-- words of bits of this format are packed so: nothing is rounded or out of range
pub record AreBitsAsked (given : Given) (format : FormatParts) (p : PackBits) : Type 0 where
  pub policy : value_of given (codes "policy") ≡ None
  pub mode : value_of given (codes "mode") ≡ None
  pub report : value_of given (codes "report") ≡ None
  pub radix : IsNamed Radix radix_text Dec (value_of given (codes "radix")) p.radix
  pub format_is : p.format ≡ format
  pub endian : IsNamed Endian endian_text Little (value_of given (codes "endian")) p.endian
