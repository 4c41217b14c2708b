-- Statements of this crate's laws.
use Rattle.std.specs.Prelude.{◌≡◌, ◌+◌, ◌^◌, ◌≤◌, ℕ, Bool, true, List, pos}
use Rattle.fixed_bits.specs.Formats.{FormatParts}
use Rattle.fixed_numeral.specs.declared.radix.Radix.{Radix}
use Rattle.fixed_show.specs.ErrorText.{IsExactDecimal}
use Rattle.line_engine.specs.AnswerText.{AnswerText}
use Rattle.fixed_fit.specs.Answer.{IsAnswer}
use Rattle.fixed_fit.specs.Bounded.{IsBoundedAnswer, IsWidthReason}
use Rattle.fixed_fit.specs.ErrorWord.{IsErrorWord}
use Rattle.fixed_fit.specs.Fitting.{AllFit, Choice, Fits, IsFinest, IsSignRule}
use Rattle.fixed_fit.specs.Within.{IsLeastWithin, IsTried, IsUnservedFrom}
use Rattle.fixed_fit.specs.declared.question.Question.{Question}
use Rattle.fixed_fit.specs.declared.question.Widths.{Widths}

-- a numeral that fits a fraction length fits each shorter one
abbrev pub FitsEachShorter : Type 0
FitsEachShorter = (r : Radix) (s : Bool) (n f g : ℕ) (line : List ℕ) → g ≤ f → Fits r s n f line → Fits r s n g line

-- a list that fits a fraction length fits each shorter one
abbrev pub AllFitEachShorter : Type 0
AllFitEachShorter = (r : Radix) (s : Bool) (n f g : ℕ) (lines : List (List ℕ)) → g ≤ f → AllFit r s n f lines
    → AllFit r s n g lines

-- a list has at most one finest fraction length
abbrev pub FinestIsTheOne : Type 0
FinestIsTheOne = (r : Radix) (c : Choice) (n f g : ℕ) (lines : List (List ℕ)) → IsFinest r c n lines f
    → IsFinest r c n lines g → f ≡ g

-- a list has at most one sign rule
abbrev pub SignRuleIsTheOne : Type 0
SignRuleIsTheOne = (r : Radix) (asked s t : Bool) (lines : List (List ℕ)) → IsSignRule r asked lines s
    → IsSignRule r asked lines t → s ≡ t

-- an input has at most one answer
abbrev pub AnswerIsTheOne : Type 0
AnswerIsTheOne = (q : Question) (input : List ℕ) (a b : AnswerText) → IsAnswer q input a → IsAnswer q input b → a ≡ b

-- the error of a range is 1 / 2^(f + 1), half an ulp, exactly in decimal
abbrev pub RangeErrorIsHalfAnUlp : Type 0
RangeErrorIsHalfAnUlp = (r : Radix) (f : FormatParts) (lines : List (List ℕ)) (text : List ℕ) → f.frac ≤ 64
    → IsErrorWord true r f lines text → IsExactDecimal (pos 1) (2 ^ (f.frac + 1)) text

-- a list has at most one least format within a bound
abbrev pub LeastWithinIsTheOne : Type 0
LeastWithinIsTheOne = (range : Bool) (r : Radix) (c : Choice) (bound : List ℕ) (widths : Widths) (one : ℕ)
    (lines : List (List ℕ)) (n m f g : ℕ) → IsLeastWithin range r c bound widths one lines n f
    → IsLeastWithin range r c bound widths one lines m g → (n ≡ m) × (f ≡ g)

-- there is at most one line from which on no format serves
abbrev pub FirstUnservedIsTheOne : Type 0
FirstUnservedIsTheOne = (range : Bool) (r : Radix) (c : Choice) (bound : List ℕ) (widths : Widths) (one : ℕ)
    (lines : List (List ℕ)) (p q : ℕ) → IsUnservedFrom range r c bound widths one lines p
    → IsUnservedFrom range r c bound widths one lines q → p ≡ q

-- the reason against the next lesser width has one text
abbrev pub WidthReasonIsTheOne : Type 0
WidthReasonIsTheOne = (q : Question) (widths : Widths) (bound : List ℕ) (s : Bool) (list : List (List ℕ)) (n : ℕ)
    (t u : List ℕ) → IsTried widths q.kind.width n → IsWidthReason q widths bound s list n t
    → IsWidthReason q widths bound s list n u → t ≡ u

-- an input has at most one answer within a bound
abbrev pub BoundedAnswerIsTheOne : Type 0
BoundedAnswerIsTheOne = (q : Question) (widths : Widths) (bound input : List ℕ) (a b : AnswerText)
    → IsBoundedAnswer q widths bound input a → IsBoundedAnswer q widths bound input b → a ≡ b
