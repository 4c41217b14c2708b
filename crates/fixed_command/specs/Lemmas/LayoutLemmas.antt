-- A line has one reply, whatever it has besides its numeral.
use Rattle.std.proofs.Common.{◌≡◌, ◌∙◌, ◌↔◌, ◌<◌, ℕ, List, Bool, true, false, length, take, nat_lt, refl, sym}
use Rattle.std.proofs.Common.{subst, arith}
use Rattle.std.proofs.lemmas.Bool.{lt-ltb}
use Rattle.fixed_respell.specs.Answer.{fault_message}
use Rattle.fixed_respell.specs.Language.{fault_answer}
use Rattle.fixed_respell.specs.LineWords.{longest_line}
use Rattle.fixed_respell.specs.declared.fault.LineFault.TheVariants.{LineTooLong}
use Rattle.fixed_respell.specs.Lemmas.LanguageLemmas.{long_by_prefix}
use Rattle.line_engine.specs.AnswerText.{AnswerText}
use Rattle.line_engine.specs.Lines.{kept_length}
use Rattle.fixed_command.specs.Layout.{IsLaidOut, IsReplyTo, LineLayout, is_skipped, numeral_of}

module _ (l : LineLayout) (A : List ℕ → AnswerText → Type 0)
    (one : (numeral : List ℕ) (a b : AnswerText) → A numeral a → A numeral b → a ≡ b) where
  reply_to_one : (long skipped : Bool) (line : List ℕ) (a b : AnswerText) → IsReplyTo long skipped l A line a
      → IsReplyTo long skipped l A line b → a ≡ b
  reply_to_one true skipped line a b x y = x ∙ sym y
  reply_to_one false true line a b x y = x ∙ sym y
  reply_to_one false false line a b x y = one (numeral_of l line) a b x y

  pub laid_out_one : (line : List ℕ) (a b : AnswerText) → IsLaidOut l A line a → IsLaidOut l A line b → a ≡ b
  laid_out_one line a b x y = reply_to_one (nat_lt longest_line (length line)) (is_skipped l line) line a b x y

  long_line : (line : List ℕ) → longest_line < length line
      → IsLaidOut l A line (fault_answer (fault_message LineTooLong))
  long_line line long = subst (λ b. IsReplyTo b (is_skipped l line) l A line (fault_answer (fault_message
      LineTooLong))) (sym (lt-ltb longest_line (length line) long)) refl

  pub long_by_its_prefix : (line : List ℕ) (reply : AnswerText) → kept_length < length line
      → IsLaidOut l A (take kept_length line) reply ↔ IsLaidOut l A line reply
  long_by_its_prefix line reply long = long_by_prefix (IsLaidOut l A) (fault_answer (fault_message LineTooLong))
      laid_out_one long_line kept_length line reply (omega arith) long
