-- A numeral has one reply with its error.
use Rattle.std.proofs.Common.{◌≡◌, ◌∙◌, ℕ, List, false, ap, inl, inr, sym}
use Rattle.fixed_numeral.specs.Messages.{message_of}
use Rattle.fixed_numeral.specs.declared.error.ParseErrorKind.{ParseErrorKind}
use Rattle.fixed_respell.specs.Language.{fault_answer}
use Rattle.fixed_show.proofs.Public.{measured_error_one}
use Rattle.line_engine.specs.AnswerText.{AnswerText}
use Rattle.fixed_command.specs.Errors.{IsErrorReply}
use Rattle.fixed_command.specs.declared.error_lines.ErrorSettings.{ErrorSettings}

abbrev clean_reply : List ℕ → AnswerText
clean_reply t = record { text = t; fault = false }

abbrev refusal_reply : ParseErrorKind → AnswerText
refusal_reply kind = fault_answer (message_of kind)

pub error_reply_one : (s : ErrorSettings) (numeral : List ℕ) (a b : AnswerText) → IsErrorReply s numeral a
    → IsErrorReply s numeral b → a ≡ b
error_reply_one s numeral a b (inl x) (inl y) =
    let text : x.text ≡ y.text = measured_error_one.error s.measure s.mode s.radix numeral s.format s.policy x.text
    y.text x.format.is_width x.is_error y.is_error in
    x.reply_is ∙ ap (λ t. clean_reply t) text ∙ sym y.reply_is
error_reply_one s numeral a b (inl x) (inr y) = absurd (measured_error_one.apart s.measure s.mode s.radix numeral
    s.format s.policy y.kind x.text y.unread x.is_error)
error_reply_one s numeral a b (inr x) (inl y) = absurd (measured_error_one.apart s.measure s.mode s.radix numeral
    s.format s.policy x.kind y.text x.unread y.is_error)
error_reply_one s numeral a b (inr x) (inr y) =
    let kind : x.kind ≡ y.kind = measured_error_one.refusal s.mode s.radix numeral s.format s.policy x.kind y.kind
    x.unread y.unread in
    x.reply_is ∙ ap (λ k. refusal_reply k) kind ∙ sym y.reply_is
