-- A line with a layout has one answer, that of its kept prefix if it is too long.
use Rattle.std.proofs.Common.{◌≡◌, ◌∙◌, ◌↔◌, ◌<◌, ℕ, List, Bool, true, false, length, take, nat_lt, sym, subst, arith}
use Rattle.std.proofs.lemmas.Bool.{lt-ltb}
use Rattle.std.proofs.lemmas.List.{length-take}
use Rattle.fixed_respell.specs.LineWords.{longest_line}
use Rattle.line_engine.specs.AnswerText.{AnswerText}
use Rattle.line_engine.specs.Lines.{kept_length}
use Rattle.fixed_command.specs.Layout.{AnswersLaidOut, IsAnswerLaidBy, LineLayout, is_skipped, without_blanks}

module _ (l : LineLayout) (A : List ℕ → AnswerText → Type 0) where
  answer_by_one : ((line : List ℕ) (a b : AnswerText) → A line a → A line b → a ≡ b) → (long skipped : Bool)
      (line : List ℕ) (a b : AnswerText) → IsAnswerLaidBy long skipped l A line a
      → IsAnswerLaidBy long skipped l A line b → a ≡ b
  answer_by_one one true skipped line a b x y = one line a b x y
  answer_by_one one false true line a b x y = x ∙ sym y
  answer_by_one one false false line a b x y = one (without_blanks l line) a b x y

  pub laid_answer_one : ((line : List ℕ) (a b : AnswerText) → A line a → A line b → a ≡ b) → (line : List ℕ)
      (a b : AnswerText) → AnswersLaidOut l A line a → AnswersLaidOut l A line b → a ≡ b
  laid_answer_one one line a b x y = answer_by_one one (nat_lt longest_line (length line)) (is_skipped l line) line a b
      x y

  -- a line that is too long is answered like any other
  long_to : (line : List ℕ) (reply : AnswerText) → longest_line < length line → AnswersLaidOut l A line reply
      → A line reply
  long_to line reply long x = subst (λ b. IsAnswerLaidBy b (is_skipped l line) l A line reply)
      (lt-ltb longest_line (length line) long) x

  long_from : (line : List ℕ) (reply : AnswerText) → longest_line < length line → A line reply
      → AnswersLaidOut l A line reply
  long_from line reply long x = subst (λ b. IsAnswerLaidBy b (is_skipped l line) l A line reply)
      (sym (lt-ltb longest_line (length line) long)) x

  cut_is_long : (n : ℕ) (line : List ℕ) → longest_line < n → n < length line → longest_line < length (take n line)
  cut_is_long n line most long = omega (arith, most, long, length-take n line)

  kept_by : (n : ℕ) → longest_line < n
      → ((line : List ℕ) (reply : AnswerText) → n < length line → A (take n line) reply ↔ A line reply)
      → (line : List ℕ) (reply : AnswerText) → n < length line
      → AnswersLaidOut l A (take n line) reply ↔ AnswersLaidOut l A line reply
  kept_by n most kept line reply long =
      let short = cut_is_long n line most long in
      let whole : longest_line < length line = omega (arith, most, long) in (
        λ x. long_from line reply whole ((kept line reply long).0 (long_to (take n line) reply short x)),
        λ x. long_from (take n line) reply short ((kept line reply long).1 (long_to line reply whole x)),
      )

  pub laid_answer_kept : ((line : List ℕ) (reply : AnswerText) → kept_length < length line
      → A (take kept_length line) reply ↔ A line reply) → (line : List ℕ) (reply : AnswerText)
      → kept_length < length line → AnswersLaidOut l A (take kept_length line) reply ↔ AnswersLaidOut l A line reply
  laid_answer_kept kept line reply long = kept_by kept_length (omega arith) kept line reply long
