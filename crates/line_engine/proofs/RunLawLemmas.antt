-- An input has one output, and a run has one end.
use Rattle.std.proofs.Common.{◌≡◌, ℕ, ◌+◌, ◌-◌, ◌^◌, ◌<◌, ◌≤◌, Bool, true, false, List, [], ◌∷◌, ◌++◌, length, Some, refl, sym, ap, subst, ◌∙◌, arith, inl, inr}
use Rattle.std.proofs.lemmas.Bool.{false≢true}
use Rattle.std.proofs.lemmas.List.{append_cancel_right}
use Rattle.line_engine.specs.AnswerText.{AnswerText}
use Rattle.line_engine.specs.Failures.{HasFailed}
use Rattle.line_engine.specs.Lines.{lines}
use Rattle.line_engine.specs.Output.{AreAnswers, any_fault, written_of, status_of}
use Rattle.line_engine.specs.Run.{AnswersAll, AnswersLimit, HasFailures, HasRun}
use Rattle.line_engine.specs.RunLaws.{FillIsTheOne, OutputIsTheOne, RunEndIsTheOne, TextEndIsTheOne, WholeOutputIsTheOne, WholeRunEndIsTheOne}
use Rattle.line_engine.specs.WholeRun.{AnswersWhole, HasWholeRun, TakesPast}
use Rattle.line_engine.specs.declared.status.Status.{Status}
use Rattle.line_engine.specs.declared.status.Status.TheVariants.{Done, Faults, Usage, ReadFault, WriteFault, NoMemory, TooLong}
use Rattle.line_engine.specs.declared.whole.Filled.TheVariants.{End, TooLong as PastLimit, ReadFault as BadRead}

-- a call did not fail if the count of failures can rise and did not
pub not_failed : (before now : ℕ) → before < 2 ^ 64 - 1 → now ≡ before → HasFailed before now → ⊥
not_failed before now room same failed = absurd (omega arith)

taken_one : (left left' a b : List ℕ) → left ≡ a ++ left' → left ≡ b ++ left' → a ≡ b
taken_one left left' a b x y = append_cancel_right a b left' (sym x ∙ y)

-- what a status says of the input: it was answered, with a fault or without one, or is longer than the limit
abbrev Part : (Bool → Type 0) → Type 0 → Status → Type 0
Part Answers Past Done = Answers false
Part Answers Past Faults = Answers true
Part Answers Past Usage = ⊥
Part Answers Past ReadFault = Unit {0}
Part Answers Past WriteFault = Unit {0}
Part Answers Past NoMemory = Unit {0}
Part Answers Past TooLong = Past

module _ (Answers : Bool → Type 0) (Past : Type 0) (not_both : Answers false → Answers true → ⊥) (not_past : (fault : Bool) → Answers fault → Past → ⊥)
    (read read' write write' : ℕ) (can_read : read < 2 ^ 64 - 1) (can_write : write < 2 ^ 64 - 1) where
  end_one : (s t : Status) → (s ≡ NoMemory → ⊥) → (t ≡ NoMemory → ⊥)
      → Part Answers Past s → HasFailures read read' write write' s → Part Answers Past t → HasFailures read read' write write' t → s ≡ t
  end_one Done Done no_s no_t x f y g = refl
  end_one Done Faults no_s no_t x f y g = absurd (not_both x y)
  end_one Done Usage no_s no_t x f y g = absurd y
  end_one Done ReadFault no_s no_t x f y g = absurd (not_failed read read' can_read f.source g.0)
  end_one Done WriteFault no_s no_t x f y g = absurd (not_failed write write' can_write f.sink g.1)
  end_one Done NoMemory no_s no_t x f y g = absurd (no_t refl)
  end_one Done TooLong no_s no_t x f y g = absurd (not_past false x y)
  end_one Faults Done no_s no_t x f y g = absurd (not_both y x)
  end_one Faults Faults no_s no_t x f y g = refl
  end_one Faults Usage no_s no_t x f y g = absurd y
  end_one Faults ReadFault no_s no_t x f y g = absurd (not_failed read read' can_read f.source g.0)
  end_one Faults WriteFault no_s no_t x f y g = absurd (not_failed write write' can_write f.sink g.1)
  end_one Faults NoMemory no_s no_t x f y g = absurd (no_t refl)
  end_one Faults TooLong no_s no_t x f y g = absurd (not_past true x y)
  end_one Usage t no_s no_t x f y g = absurd x
  end_one ReadFault Done no_s no_t x f y g = absurd (not_failed read read' can_read g.source f.0)
  end_one ReadFault Faults no_s no_t x f y g = absurd (not_failed read read' can_read g.source f.0)
  end_one ReadFault Usage no_s no_t x f y g = absurd y
  end_one ReadFault ReadFault no_s no_t x f y g = refl
  end_one ReadFault WriteFault no_s no_t x f y g = absurd (not_failed write write' can_write f.1 g.1)
  end_one ReadFault NoMemory no_s no_t x f y g = absurd (no_t refl)
  end_one ReadFault TooLong no_s no_t x f y g = absurd (not_failed read read' can_read g.source f.0)
  end_one WriteFault Done no_s no_t x f y g = absurd (not_failed write write' can_write g.sink f.1)
  end_one WriteFault Faults no_s no_t x f y g = absurd (not_failed write write' can_write g.sink f.1)
  end_one WriteFault Usage no_s no_t x f y g = absurd y
  end_one WriteFault ReadFault no_s no_t x f y g = absurd (not_failed write write' can_write g.1 f.1)
  end_one WriteFault WriteFault no_s no_t x f y g = refl
  end_one WriteFault NoMemory no_s no_t x f y g = absurd (no_t refl)
  end_one WriteFault TooLong no_s no_t x f y g = absurd (not_failed write write' can_write g.sink f.1)
  end_one NoMemory t no_s no_t x f y g = absurd (no_s refl)
  end_one TooLong Done no_s no_t x f y g = absurd (not_past false y x)
  end_one TooLong Faults no_s no_t x f y g = absurd (not_past true y x)
  end_one TooLong Usage no_s no_t x f y g = absurd y
  end_one TooLong ReadFault no_s no_t x f y g = absurd (not_failed read read' can_read f.source g.0)
  end_one TooLong WriteFault no_s no_t x f y g = absurd (not_failed write write' can_write f.sink g.1)
  end_one TooLong NoMemory no_s no_t x f y g = absurd (no_t refl)
  end_one TooLong TooLong no_s no_t x f y g = refl

module _ (A : List ℕ → AnswerText → Type 0) (one : (input : List ℕ) (a b : AnswerText) → A input a → A input b → a ≡ b) where
  pub answers_one : (ls : List (List ℕ)) (xs ys : List AnswerText) → AreAnswers A ls xs → AreAnswers A ls ys → xs ≡ ys
  answers_one [] [] [] a b = refl
  answers_one [] [] (y ∷ ys) a b = absurd b
  answers_one [] (x ∷ xs) ys a b = absurd a
  answers_one (l ∷ ls) [] ys a b = absurd a
  answers_one (l ∷ ls) (x ∷ xs) [] a b = absurd b
  answers_one (l ∷ ls) (x ∷ xs) (y ∷ ys) a b =
      let first = one l x y a.0 b.0 in
      let rest = answers_one ls xs ys a.1 b.1 in
      cc

  pub output_one : OutputIsTheOne A
  output_one input before a b s t x y =
      let same = answers_one (lines input) x.replies y.replies x.answers y.answers in
      (x.output ∙ (ap (λ r. before ++ written_of r) same ∙ sym y.output), x.faulty ∙ (ap (λ r. status_of (any_fault r)) same ∙ sym y.faulty))

  pub whole_output_one : WholeOutputIsTheOne A
  whole_output_one input before a b s t x y =
      let same = one input x.text y.text x.answer y.answer in
      (x.output ∙ (ap (λ r. before ++ r.text) same ∙ sym y.output), x.faulty ∙ (ap (λ r. status_of r.fault) same ∙ sym y.faulty))

  module _ (limit : ℕ) (left left' before after : List ℕ) where
    -- one input is not answered both with a fault and without one
    not_both : AnswersAll A limit (Some left) (Some left') (Some before) (Some after) false → AnswersAll A limit (Some left) (Some left') (Some before) (Some after) true → ⊥
    not_both x y =
        let input : x.input ≡ y.input = taken_one left left' x.input y.input x.taken y.taken in
        let P : List ℕ → Type 0 = λ i. AreAnswers A (lines i) x.replies in
        let same = answers_one (lines y.input) x.replies y.replies (subst P input x.answers) y.answers in
        false≢true (sym x.faulty ∙ (ap any_fault same ∙ y.faulty))

    -- an input within the limit is not past it
    not_past : (fault : Bool) → AnswersAll A limit (Some left) (Some left') (Some before) (Some after) fault → AnswersLimit A limit (Some left) (Some left') (Some before) (Some after) → ⊥
    not_past fault x y =
        let n : length x.input ≡ length y.bytes = ap length (taken_one left left' x.input y.bytes x.taken y.taken) in
        let few : length x.input ≤ limit = x.within in
        let many : length y.bytes ≡ limit + 1 = y.past in
        absurd (omega arith)

    run_part : (s : Status) → HasRun A limit (Some left) (Some left') (Some before) (Some after) s
        → Part (AnswersAll A limit (Some left) (Some left') (Some before) (Some after)) (AnswersLimit A limit (Some left) (Some left') (Some before) (Some after)) s
    run_part Done x = x
    run_part Faults x = x
    run_part Usage x = x
    run_part ReadFault x = tt
    run_part WriteFault x = tt
    run_part NoMemory x = tt
    run_part TooLong x = x

    -- one whole input is not answered both with a fault and without one
    whole_not_both : AnswersWhole A limit (Some left) (Some left') (Some before) (Some after) false → AnswersWhole A limit (Some left) (Some left') (Some before) (Some after) true → ⊥
    whole_not_both x y =
        let input : x.input ≡ y.input = taken_one left left' x.input y.input x.taken y.taken in
        let P : List ℕ → Type 0 = λ i. A i x.text in
        let same = one y.input x.text y.text (subst P input x.answer) y.answer in
        false≢true (sym x.faulty ∙ (ap (λ t. t.fault) same ∙ y.faulty))

    whole_not_past : (fault : Bool) → AnswersWhole A limit (Some left) (Some left') (Some before) (Some after) fault → TakesPast limit (Some left) (Some left') → ⊥
    whole_not_past fault x y =
        let n : length x.input ≡ length y.bytes = ap length (taken_one left left' x.input y.bytes x.taken y.taken) in
        let few : length x.input ≤ limit = x.within in
        let many : length y.bytes ≡ limit + 1 = y.past in
        absurd (omega arith)

    whole_part : (s : Status) → HasWholeRun A limit (Some left) (Some left') (Some before) (Some after) s
        → Part (AnswersWhole A limit (Some left) (Some left') (Some before) (Some after)) (TakesPast limit (Some left) (Some left')) s
    whole_part Done x = x
    whole_part Faults x = x
    whole_part Usage x = x
    whole_part ReadFault x = tt
    whole_part WriteFault x = tt
    whole_part NoMemory x = tt
    whole_part TooLong x = x.0

  pub run_end_one : RunEndIsTheOne A
  run_end_one limit left left' before after read read' write write' s t can_read can_write no_s no_t x f y g =
      end_one _ _ (not_both limit left left' before after) (not_past limit left left' before after) read read' write write' can_read can_write s t no_s no_t
      (run_part limit left left' before after s x) f (run_part limit left left' before after t y) g

  pub whole_run_end_one : WholeRunEndIsTheOne A
  whole_run_end_one limit left left' before after read read' write write' s t can_read can_write no_s no_t x f y g =
      end_one _ _ (whole_not_both limit left left' before after) (whole_not_past limit left left' before after) read read' write write' can_read can_write s t no_s no_t
      (whole_part limit left left' before after s x) f (whole_part limit left left' before after t y) g

pub text_end_one : TextEndIsTheOne
text_end_one text ending s t written written' f f' room (inl x) (inl y) = x.0 ∙ sym y.0
text_end_one text ending s t written written' f f' room (inl x) (inr y) = absurd (not_failed f f' room x.2 y.2)
text_end_one text ending s t written written' f f' room (inr x) (inl y) = absurd (not_failed f f' room y.2 x.2)
text_end_one text ending s t written written' f f' room (inr x) (inr y) = x.0 ∙ sym y.0

pub fill_one : FillIsTheOne
fill_one limit left left' a b f f' End End room x y = (taken_one left left' a b x.0 y.0, refl)
fill_one limit left left' a b f f' End PastLimit room x y =
    let same = taken_one left left' a b x.0 y.0 in
    let n : length a ≡ length b = ap length same in
    let few : length a ≤ limit = x.2 in
    let many : length b ≡ limit + 1 = y.1 in
    absurd (omega arith)
fill_one limit left left' a b f f' End BadRead room x y = absurd (not_failed f f' room x.3 y.2)
fill_one limit left left' a b f f' PastLimit End room x y =
    let same = taken_one left left' a b x.0 y.0 in
    let n : length a ≡ length b = ap length same in
    let many : length a ≡ limit + 1 = x.1 in
    let few : length b ≤ limit = y.2 in
    absurd (omega arith)
fill_one limit left left' a b f f' PastLimit PastLimit room x y = (taken_one left left' a b x.0 y.0, refl)
fill_one limit left left' a b f f' PastLimit BadRead room x y = absurd (not_failed f f' room x.2 y.2)
fill_one limit left left' a b f f' BadRead End room x y = absurd (not_failed f f' room y.3 x.2)
fill_one limit left left' a b f f' BadRead PastLimit room x y = absurd (not_failed f f' room y.2 x.2)
fill_one limit left left' a b f f' BadRead BadRead room x y = (taken_one left left' a b x.0 y.0, refl)
