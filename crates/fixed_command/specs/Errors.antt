-- The output for the error of a numeral.
use Rattle.std.specs.Prelude.{◌≡◌, ◌⊎◌, List, ℕ, false}
use Rattle.fixed_bits.specs.Formats.{IsFormat}
use Rattle.fixed_numeral.specs.Messages.{message_of}
use Rattle.fixed_numeral.specs.declared.error.ParseErrorKind.{ParseErrorKind}
use Rattle.fixed_respell.specs.Language.{fault_answer}
use Rattle.fixed_show.specs.Measured.{IsMeasuredError}
use Rattle.fixed_show.specs.ShowBlock.{IsUnread}
use Rattle.line_engine.specs.AnswerText.{AnswerText}
use Rattle.fixed_command.specs.Layout.{IsLaidOut}
use Rattle.fixed_command.specs.declared.error_lines.ErrorLines.{ErrorLines}
use Rattle.fixed_command.specs.declared.error_lines.ErrorSettings.{ErrorSettings}

-- the reply is the error of the numeral
pub record IsErrorWritten (s : ErrorSettings) (numeral : List ℕ) (reply : AnswerText) : Type 0 where
  pub format : IsFormat s.format.width s.format.frac
  pub text : List ℕ
  pub is_error : IsMeasuredError s.measure s.mode s.radix numeral s.format s.policy text
  pub reply_is : reply ≡ record { text = text; fault = false }

-- the numeral is refused, and the reply is the fault
pub record IsErrorRefused (s : ErrorSettings) (numeral : List ℕ) (reply : AnswerText) : Type 0 where
  pub kind : ParseErrorKind
  pub unread : IsUnread s.mode s.radix numeral s.format s.policy kind
  pub reply_is : reply ≡ fault_answer (message_of kind)

-- the reply to a numeral
abbrev pub IsErrorReply : ErrorSettings → List ℕ → AnswerText → Type 0
IsErrorReply s numeral reply = IsErrorWritten s numeral reply ⊎ IsErrorRefused s numeral reply

-- the reply to a line
abbrev pub IsErrorLine : ErrorLines → List ℕ → AnswerText → Type 0
IsErrorLine lines = IsLaidOut lines.layout (IsErrorReply lines.settings)
