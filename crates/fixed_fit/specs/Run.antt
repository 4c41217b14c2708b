-- The answer that is made of a list, and the effects of a run over it.
use Rattle.std.specs.Prelude.{◌≡◌, ℕ, Bool, List, [], Option, Some, None, Result}
use Rattle.std.specs.declared.convert.Infallible.{Infallible}
use Rattle.fixed_command.specs.LaidList.{laid_out}
use Rattle.fixed_command.specs.Layout.{LineLayout}
use Rattle.line_engine.specs.AnswerText.{AnswerText}
use Rattle.line_engine.specs.declared.status.Status.{Status}
use Rattle.run_engine.specs.LineStatus.{IsStatus}
use Rattle.run_engine.specs.Machines.{How, going, finished, lacking, stopped}
use Rattle.run_engine.specs.Run.{HasRun}
use Rattle.run_engine.specs.Seen.{Seen, moment}
use Rattle.run_engine.specs.declared.engine.End.{End}
use Rattle.run_engine.specs.declared.pieces.Cut.{Cut}
use Rattle.fixed_fit.specs.Answer.{IsAnswer}
use Rattle.fixed_fit.specs.Bounded.{IsBoundedAnswer}
use Rattle.fixed_fit.specs.Inner.Reading.{HasRead}
use Rattle.fixed_fit.specs.Inner.Serving.{Asked, bounded, unbounded}
use Rattle.fixed_fit.specs.Unfit.{said, why_of}
use Rattle.fixed_fit.specs.Within.{most_width}
use Rattle.fixed_fit.specs.declared.answer.Unfit.{Unfit}
use Rattle.fixed_fit.specs.declared.question.Question.{Question}
use Rattle.fixed_fit.specs.declared.question.Widths.{Widths}
use Rattle.fixed_fit.specs.declared.reader.FitList.{FitList}

-- the answer to an input: for a width, or for some widths within a bound
abbrev pub IsAnswerTo : Question → Option Widths → List ℕ → List ℕ → AnswerText → Type 0
IsAnswerTo q None bound input answer = IsAnswer q input answer
IsAnswerTo q (Some widths) bound input answer = IsBoundedAnswer q widths bound input answer

-- the request for which the lines are kept
abbrev pub asked_by : Question → Option Widths → List ℕ → Asked
asked_by q None bound = unbounded q.kind.width q.fractions
asked_by q (Some widths) bound = bounded q.is_range (most_width widths q.kind.width) q.fractions bound widths
    q.kind.width

-- text, fault and unfit are those of the only answer to the input
pub record Answers (q : Question) (widths : Option Widths) (bound input text : List ℕ) (fault : Bool)
    (unfit : Option Unfit) : Type 0 where
  pub answer : Result (List ℕ) Unfit
  pub is : IsAnswerTo q widths bound input (said answer)
  pub one : (other : AnswerText) → IsAnswerTo q widths bound input other → other ≡ said answer
  pub text_is : text ≡ (said answer).text
  pub fault_is : fault ≡ (said answer).fault
  pub unfit_is : unfit ≡ why_of answer

-- the text that is made of a list whose lines have a layout, by the state of the machine: nothing before its end
abbrev pub MakesFit : Question → Option Widths → List ℕ → Option LineLayout → List ℕ → List ℕ → How Infallible → FitList
    → Type 0
MakesFit q widths bound l bytes text going list = (text ≡ []) × HasRead q.radix (asked_by q widths bound) l bytes
    list.reader
MakesFit q widths bound l bytes text (finished fault) list = Answers q widths bound (laid_out l bytes) text fault
    list.unfit
MakesFit q widths bound l bytes text lacking list = text ≡ []
MakesFit q widths bound l bytes text (stopped late why) list = ⊥

abbrev pub MakesBy : FitList → List ℕ → List ℕ → ℕ → How Infallible → FitList → Type 0
MakesBy first bytes text spent how last = (last.question ≡ first.question) × (last.widths ≡ first.widths)
    × (last.bound ≡ first.bound) × MakesFit first.question first.widths first.bound.items first.reader.layout bytes
    text how last

-- what a run within a limit over lines with a layout, which ended with this status, has taken, made and written; a and
-- b are what was seen of both devices before and after it, by names for them
pub record HasFitRun (limit : ℕ) (l : Option LineLayout) (q : Question) (widths : Option Widths) (bound : List ℕ)
    (a b : ℕ → ℕ → Seen) (unfit : Option Unfit) (status : Status) : Type 0 where
  pub first : FitList
  pub last : Cut FitList
  pub steps : ℕ
  pub steps' : ℕ
  pub held : List ℕ
  pub source : ℕ
  pub sink : ℕ
  pub end : End Infallible
  pub question_is : first.question ≡ q
  pub widths_are : first.widths ≡ widths
  pub bound_is : first.bound.items ≡ bound
  pub layout_is : first.reader.layout ≡ l
  pub ends : IsStatus end status
  pub run : HasRun (λ bytes text spent how it. MakesBy first bytes text spent how it.0) last limit
      (moment (a source sink) [] steps) (moment (b source sink) held steps') end
  pub unfit_is : unfit ≡ last.0.unfit
