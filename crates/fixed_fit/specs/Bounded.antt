-- The text that is written about a list if the least format within an error is requested.
use Rattle.std.specs.Prelude.{◌≡◌, ◌⊎◌, ◌≤◌, ℕ, Bool, true, false, List, ◌++◌, [], ◌∷◌}
use Rattle.std.specs.Prelude.{codes, decimal}
use Rattle.fixed_least.specs.Holding.{AllNumerals}
use Rattle.fixed_least.specs.Least.{IsFaultAnswer}
use Rattle.line_engine.specs.AnswerText.{AnswerText}
use Rattle.line_engine.specs.Lines.{lines}
use Rattle.fixed_fit.specs.Answer.{IsReason, format_of, from_line, name_of, none_line}
use Rattle.fixed_fit.specs.ErrorWord.{IsErrorWord}
use Rattle.fixed_fit.specs.Fitting.{IsSignRule, choice}
use Rattle.fixed_fit.specs.Within.{IsLeastWithin, IsNextBelow, IsTried, IsUnservedFrom}
use Rattle.fixed_fit.specs.declared.question.Question.{Question}
use Rattle.fixed_fit.specs.declared.question.Widths.{Widths}
use Rattle.fixed_fit.specs.declared.question.Widths.TheVariants.{One}

-- the same question for another width
abbrev pub at_width : Question → ℕ → Question
at_width q n = record {
  radix = q.radix;
  kind = format_of q.kind.signed n q.kind.frac;
  fractions = q.fractions;
  is_reason_asked = q.is_reason_asked;
  is_range = q.is_range;
}

-- the line that says from which line on no format of a width serves
abbrev pub width_line : ℕ → ℕ → List ℕ
width_line n place = codes "width " ++ (decimal n ++ (from_line place ++ 10 ∷ []))

-- why no lesser width serves: the line from which on no format of the next lesser one does; nothing if no lesser one is
-- tried, or if the reason is not requested
pub record IsWidthReason (q : Question) (widths : Widths) (bound : List ℕ) (s : Bool) (list : List (List ℕ)) (n : ℕ)
    (text : List ℕ) : Type 0 where
  pub unasked : q.is_reason_asked ≡ false → text ≡ []
  pub no_lesser : ((m : ℕ) → IsTried widths q.kind.width m → n ≤ m) → text ≡ []
  pub next : q.is_reason_asked ≡ true → (m : ℕ) → IsNextBelow widths q.kind.width n m
      → (place : ℕ) × IsUnservedFrom q.is_range q.radix (choice s q.fractions) bound One m list place
      × (text ≡ width_line m place)

-- the answer names the least format within the bound and the greatest error in it
pub record IsBoundedFound (q : Question) (widths : Widths) (bound : List ℕ) (list : List (List ℕ))
    (answer : AnswerText) : Type 0 where
  pub numerals : AllNumerals q.radix list
  pub signed : Bool
  pub sign : IsSignRule q.radix q.kind.signed list signed
  pub width : ℕ
  pub frac : ℕ
  pub least : IsLeastWithin q.is_range q.radix (choice signed q.fractions) bound widths q.kind.width list width
      frac
  pub error : List ℕ
  pub is_error : IsErrorWord q.is_range q.radix (format_of signed width frac) list error
  pub reason : List ℕ
  pub is_reason : IsReason (at_width q width) signed list frac reason
  pub lesser : List ℕ
  pub is_lesser : IsWidthReason q widths bound signed list width lesser
  pub text : answer.text ≡ name_of signed width frac ++ (codes " error " ++ (error ++ 10 ∷ (reason ++ lesser)))
  pub fault : answer.fault ≡ false

-- no format serves, and the answer names the first line with which none does, if there is one
pub record IsBoundedNone (q : Question) (widths : Widths) (bound : List ℕ) (list : List (List ℕ))
    (answer : AnswerText) : Type 0 where
  pub numerals : AllNumerals q.radix list
  pub signed : Bool
  pub sign : IsSignRule q.radix q.kind.signed list signed
  pub place : ℕ
  pub first : IsUnservedFrom q.is_range q.radix (choice signed q.fractions) bound widths q.kind.width list place
  pub text : answer.text ≡ none_line place
  pub fault : answer.fault ≡ true

-- the answer to an input: it names the first line that is not a numeral, or it answers a list of numerals
abbrev pub IsBoundedAnswer : Question → Widths → List ℕ → List ℕ → AnswerText → Type 0
IsBoundedAnswer q widths bound input answer = IsFaultAnswer q.radix input answer
    ⊎ (IsBoundedFound q widths bound (lines input) answer ⊎ IsBoundedNone q widths bound (lines input) answer)
