-- The replies of lines that are answered with errors.
use Rattle.std.proofs.Common.{◌≡◌, ℕ, List, Ok, Err, arith, inl, inr, refl, subst, sym}
use Rattle.fixed_bits.specs.Formats.{IsFormat}
use Rattle.fixed_numeral.specs.Messages.{message_of}
use Rattle.fixed_numeral.proofs.Public.{message_short}
use Rattle.fixed_numeral.specs.declared.error.ParseErrorKind.{ParseErrorKind}
use Rattle.fixed_show.specs.Blocks.{Appends}
use Rattle.fixed_show.specs.Measured.{IsMeasuredError}
use Rattle.fixed_show.specs.ShowBlock.{IsUnread}
use Rattle.run_engine.specs.Reply.{Replies}
use Rattle.fixed_command.specs.Errors.{IsErrorReply}
use Rattle.fixed_command.specs.Message.{message_text}
use Rattle.fixed_command.specs.declared.error_lines.ErrorSettings.{ErrorSettings}
use Rattle.fixed_command.specs.declared.message.Message.{Message}
use Rattle.fixed_command.proofs.AskingLemmas.{err_replies, ok_replies}

pub written : (s : ErrorSettings) (numeral before after : List ℕ) → IsFormat s.format.width s.format.frac
    → Appends (IsMeasuredError s.measure s.mode s.radix numeral s.format s.policy) 1380 before after → Replies {N = Unit {0}} (IsErrorReply s) message_text 1380 numeral before after (Ok tt)
written s numeral before after format t = ok_replies (IsErrorReply s) 1380 numeral before after (record {
  text = t.text;
  answer = inl (record { format = format; text = t.text; is_error = t.is_text; reply_is = refl });
  appended = t.appended;
  short = t.short;
})

pub refused : (s : ErrorSettings) (numeral : List ℕ) (kind : ParseErrorKind) (before same : List ℕ) (m : Message)
    → IsUnread s.mode s.radix numeral s.format s.policy kind × (same ≡ before) → m.text.now ≡ message_of kind → Replies {N = Unit {0}} (IsErrorReply s) message_text 1380 numeral before same (Err m)
refused s numeral kind before same m none is =
    subst (λ l. Replies {N = Unit {0}} (IsErrorReply s) message_text 1380 numeral before l (Err m)) (sym none.1)
    (err_replies (IsErrorReply s) 1380 numeral before (message_of kind) m (omega arith) is (message_short kind) (inr (record { kind = kind; unread = none.0; reply_is = refl })))
