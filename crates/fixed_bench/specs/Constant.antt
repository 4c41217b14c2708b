-- The rule that answers each line alike.
use Rattle.std.specs.Prelude.{◌≡◌, ◌<◌, ◌↔◌, ℕ, List, length, take, codes, false}
use Rattle.std.proofs.Common.{◌∙◌, lit<, sym}
use Rattle.line_engine.specs.Lines.{kept_length}
use Rattle.line_engine.specs.AnswerText.{AnswerText}

abbrev pub IsConstant : List ℕ → AnswerText → Type 0
IsConstant line reply = reply ≡ record { text = codes "0 0 fits"; fault = false }

pub constant_one : (line : List ℕ) (a b : AnswerText) → IsConstant line a → IsConstant line b → a ≡ b
constant_one line a b p q = p ∙ sym q

pub constant_kept : (line : List ℕ) (reply : AnswerText) → kept_length < length line
    → IsConstant (take kept_length line) reply ↔ IsConstant line reply
constant_kept line reply long = ((λ p. p), (λ p. p))

pub constant_room : 8 < 8192
constant_room = lit< tt
