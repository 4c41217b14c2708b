-- The reply to a line with an amount.
use Rattle.std.specs.Prelude.{◌≡◌, ◌⊎◌, ℕ, ℤ, Bool, false, List}
use Rattle.std.specs.Fmt.{signed_decimal}
use Rattle.fixed_bits.specs.Images.{wrap_to_unsigned}
use Rattle.fixed_decimal.specs.Texts.{decimal_format_text}
use Rattle.fixed_respell.specs.Answer as respell
use Rattle.fixed_respell.specs.Answer.{respelled_answer}
use Rattle.fixed_respell.specs.Language.{fault_answer}
use Rattle.fixed_respell.specs.declared.fault.LineFault.TheVariants.{LineTooLong}
use Rattle.fixed_show.specs.BitsBlock as show
use Rattle.fixed_show.specs.Blocks.{hex_text}
use Rattle.fixed_write.specs.Texts.{last_digits}
use Rattle.line_engine.specs.AnswerText.{AnswerText}
use Rattle.fixed_amounts.specs.Reading.{IsAmount, IsNoAmount}
use Rattle.fixed_amounts.specs.declared.fault.AmountFault.{AmountFault}
use Rattle.fixed_amounts.specs.declared.fault.AmountFault.TheVariants.{NoUnits, TooLong}
use Rattle.fixed_amounts.specs.declared.settings.AmountPrint.{AmountPrint}
use Rattle.fixed_amounts.specs.declared.settings.AmountPrint.TheVariants.{All, Hex, HexDigits, Text, Units}
use Rattle.fixed_amounts.specs.declared.settings.AmountSettings.{AmountSettings}

-- the message of a fault
abbrev pub fault_text : AmountFault → List ℕ
fault_text TooLong = respell.fault_message LineTooLong
fault_text (NoUnits fault) = show.fault_message fault

-- the units as a register word of 64 bits, in two's complement
abbrev pub unit_word : ℤ → ℕ
unit_word units = wrap_to_unsigned 64 units

-- the part of an amount that is written
abbrev pub printed : AmountPrint → ℕ → ℤ → Bool → List ℕ
printed Text places units overflowed = decimal_format_text units places
printed Units places units overflowed = signed_decimal units
printed Hex places units overflowed = hex_text 64 (unit_word units)
printed HexDigits places units overflowed = last_digits 16 false 16 (unit_word units)
printed All places units overflowed = (respelled_answer (decimal_format_text units places) units overflowed).text

-- the line has no amount, and the reply says why
pub record IsRefusal (s : AmountSettings) (bytes : List ℕ) (reply : AnswerText) : Type 0 where
  pub message : List ℕ
  pub none : IsNoAmount s.spelling s bytes message
  pub reply_is : reply ≡ fault_answer message

-- the line has an amount, and the reply is its requested part
pub record IsPrinted (s : AmountSettings) (bytes : List ℕ) (reply : AnswerText) : Type 0 where
  pub units : ℤ
  pub overflowed : Bool
  pub amount : IsAmount s.spelling s bytes units overflowed
  pub reply_is : reply ≡ record { text = printed s.print s.format units overflowed; fault = false }

-- the reply to a numeral or to a count of units
abbrev pub IsReply : AmountSettings → List ℕ → AnswerText → Type 0
IsReply s bytes reply = IsRefusal s bytes reply ⊎ IsPrinted s bytes reply
