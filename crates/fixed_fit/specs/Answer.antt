-- The text that is written about a list.
use Rattle.std.specs.Prelude.{◌≡◌, ◌⊎◌, ◌+◌, nat_lt, ℕ, Bool, if◌then◌else◌}
use Rattle.std.specs.Prelude.{true, false, List, [], ◌∷◌, ◌++◌, codes, decimal}
use Rattle.fixed_bits.specs.Formats.{FormatParts}
use Rattle.fixed_least.specs.Holding.{AllNumerals}
use Rattle.fixed_least.specs.Least.{IsFaultAnswer}
use Rattle.fixed_respell.specs.Words.{format_text}
use Rattle.line_engine.specs.AnswerText.{AnswerText}
use Rattle.line_engine.specs.Lines.{lines}
use Rattle.fixed_fit.specs.ErrorWord.{IsErrorWord}
use Rattle.fixed_fit.specs.Fitting.{IsFinest, IsFirstExceeding, IsSignRule, MayBeChosen, choice}
use Rattle.fixed_fit.specs.declared.question.Question.{Question}

-- a format and its name
abbrev pub format_of : Bool → ℕ → ℕ → FormatParts
format_of s n f = record { signed = s; width = n; frac = f }

abbrev pub name_of : Bool → ℕ → ℕ → List ℕ
name_of s n f = format_text (format_of s n f)

-- the line that says which line rules out a fraction length
abbrev pub ruled_out_line : Bool → ℕ → ℕ → ℕ → List ℕ
ruled_out_line s n f place = name_of s n f ++ (codes " line " ++ (decimal place ++ 10 ∷ []))

-- why no finer format fits: the first line that rules out the next one; nothing if there is none, or if the reason is
-- not requested
pub record IsReason (q : Question) (s : Bool) (list : List (List ℕ)) (f : ℕ) (text : List ℕ) : Type 0 where
  pub unasked : q.is_reason_asked ≡ false → text ≡ []
  pub no_next : ¬ MayBeChosen (choice s q.fractions) q.kind.width (f + 1) → text ≡ []
  pub next : q.is_reason_asked ≡ true → MayBeChosen (choice s q.fractions) q.kind.width (f + 1)
      → (place : ℕ) × IsFirstExceeding q.radix s q.kind.width (f + 1) list place
      × (text ≡ ruled_out_line s q.kind.width (f + 1) place)

-- the answer names the finest format and the greatest error in it
pub record IsFoundAnswer (q : Question) (list : List (List ℕ)) (answer : AnswerText) : Type 0 where
  pub numerals : AllNumerals q.radix list
  pub signed : Bool
  pub sign : IsSignRule q.radix q.kind.signed list signed
  pub frac : ℕ
  pub finest : IsFinest q.radix (choice signed q.fractions) q.kind.width list frac
  pub error : List ℕ
  pub is_error : IsErrorWord q.is_range q.radix (format_of signed q.kind.width frac) list error
  pub reason : List ℕ
  pub is_reason : IsReason q signed list frac reason
  pub text : answer.text ≡ name_of signed q.kind.width frac ++ (codes " error " ++ (error ++ 10 ∷ reason))
  pub fault : answer.fault ≡ false

-- the number of a line, from 1, after the word `line`; nothing for 0
abbrev pub from_line : ℕ → List ℕ
from_line place = if nat_lt 0 place then codes " line " ++ decimal place else []

-- the line that says from which line on no format fits
abbrev pub none_line : ℕ → List ℕ
none_line place = codes "none" ++ (from_line place ++ 10 ∷ [])

-- no fraction length is left, and the answer names the first line that rules out the last of them; no line if no format
-- of the width may be chosen
pub record IsNoneAnswer (q : Question) (list : List (List ℕ)) (answer : AnswerText) : Type 0 where
  pub numerals : AllNumerals q.radix list
  pub signed : Bool
  pub sign : IsSignRule q.radix q.kind.signed list signed
  pub place : ℕ
  pub never : ¬ MayBeChosen (choice signed q.fractions) q.kind.width 0 → place ≡ 0
  pub first : MayBeChosen (choice signed q.fractions) q.kind.width 0
      → IsFirstExceeding q.radix signed q.kind.width 0 list place
  pub text : answer.text ≡ none_line place
  pub fault : answer.fault ≡ true

-- the answer to an input: it names the first line that is not a numeral, or it answers a list of numerals
abbrev pub IsAnswer : Question → List ℕ → AnswerText → Type 0
IsAnswer q input answer = IsFaultAnswer q.radix input answer
    ⊎ (IsFoundAnswer q (lines input) answer ⊎ IsNoneAnswer q (lines input) answer)
