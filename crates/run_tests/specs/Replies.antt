-- The replies of the rules that the tests run by.
use Rattle.std.proofs.Common.{◌≡◌, ◌∙◌, ◌<◌, ◌==◌, ◌↔◌, ◌++◌, ◌∷◌, ℕ, suc, List, [], ap, codes, false, if◌then◌else◌}
use Rattle.std.proofs.Common.{get_or, length, refl, sym, take, true}
use Rattle.line_engine.specs.AnswerText.{AnswerText}
use Rattle.line_engine.specs.Lines.{kept_length}

-- the reply to a field that begins with this byte
abbrev pub reply_to : ℕ → AnswerText
reply_to first = if first == 120 then record { text = codes "not, so"; fault = true }
    else (if first == 61 then record { text = []; fault = false } else record { text = codes "yes"; fault = false })

-- the reply to a line that begins with this byte
abbrev pub line_reply : ℕ → AnswerText
line_reply first = if first == 120 then record { text = codes "error: " ++ codes "not so"; fault = true }
    else record { text = codes "yes"; fault = false }

-- a line begins as what is kept of it
first_kept : (n : ℕ) (line : List ℕ) → get_or (take (suc n) line) 0 0 ≡ get_or line 0 0
first_kept n [] = refl
first_kept n (byte ∷ bytes) = refl

pub long_by_its_prefix : (line : List ℕ) (reply : AnswerText) → kept_length < length line
    → (reply ≡ line_reply (get_or (take kept_length line) 0 0)) ↔ (reply ≡ line_reply (get_or line 0 0))
long_by_its_prefix line reply long = (
  λ is. is ∙ ap line_reply (first_kept 1048576 line),
  λ is. is ∙ sym (ap line_reply (first_kept 1048576 line)),
)
