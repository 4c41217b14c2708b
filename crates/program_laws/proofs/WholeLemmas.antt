-- Runs over whole inputs.
use Rattle.std.proofs.Common.{◌≡◌, ◌∙◌, ◌+◌, ◌<◌, ◌≤◌, ◌++◌, ℕ, Bool, true, false, List, Some, length, ⊎_elim, ap, arith, refl, sym, subst}
use Rattle.std.proofs.lemmas.Bool.{cases_lt}
use Rattle.std.specs.declared.option.Option.{Option}
use Rattle.line_engine.specs.AnswerText.{AnswerText}
use Rattle.line_engine.specs.Appended.{AppendsPrefix}
use Rattle.line_engine.specs.WholeRun.{AnswersWhole, AnswersWholeInPart, HasWholeRun, TakesPast, WritesAnswer}
use Rattle.line_engine.specs.declared.status.Status.{Status}
use Rattle.line_engine.specs.declared.status.Status.TheVariants.{Done, Faults, Usage, ReadFault, WriteFault, NoMemory, TooLong}
use Rattle.line_engine.proofs.Public.{whole_output_one}
use Rattle.fixed_command.specs.Runs.{IsWholeRun}
use Rattle.program_laws.specs.Runs.{CalmRunIsTheOne, IsOneText, RunIsTheOne}
use Rattle.program_laws.proofs.EndLemmas.{Part, end_one}
use Rattle.program_laws.proofs.LineLemmas.{found, taken_one}
use Rattle.program_laws.proofs.TextLemmas.{one_text, prefix_of_one}

-- neither run wrote anything
kept : (s : Status) (written a b : List ℕ) → Some a ≡ Some written → Some b ≡ Some written → IsOneText s a b
kept s written a b x y = let same : Some a ≡ Some b = x ∙ sym y in one_text s a b cc

module _ (A : List ℕ → AnswerText → Type 0) (one : (input : List ℕ) (a b : AnswerText) → A input a → A input b → a ≡ b) (limit : ℕ) where
  run_part : (left left' written written' : Option (List ℕ)) (s : Status) → HasWholeRun A limit left left' written written' s
      → Part (AnswersWhole A limit left left' written written') (TakesPast limit left left') s
  run_part left left' written written' Done x = x
  run_part left left' written written' Faults x = x
  run_part left left' written written' Usage x = x
  run_part left left' written written' ReadFault x = tt
  run_part left left' written written' WriteFault x = tt
  run_part left left' written written' NoMemory x = tt
  run_part left left' written written' TooLong x = x.0

  answer_one : (left left' xs ys : List ℕ) (a b : AnswerText) → left ≡ xs ++ left' → left ≡ ys ++ left' → A xs a → A ys b → a ≡ b
  answer_one left left' xs ys a b p q x y =
      let P : List ℕ → Type 0 = λ i. A i a in
      one ys a b (subst P (taken_one left left' xs ys p q) x) y

  past_one : (left left' xs ys : List ℕ) → left ≡ xs ++ left' → left ≡ ys ++ left' → length xs ≤ limit → length ys ≡ limit + 1 → ⊥
  past_one left left' xs ys p q few many = let n : length xs ≡ length ys = ap length (taken_one left left' xs ys p q) in absurd (omega arith)

  module _ (left left' written a b : List ℕ) where
    flag_one : (f g : Bool) → AnswersWhole A limit (Some left) (Some left') (Some written) (Some a) f → AnswersWhole A limit (Some left) (Some left') (Some written) (Some b) g → f ≡ g
    flag_one f g x y = sym x.faulty ∙ ap (λ t. t.fault) (answer_one left left' x.input y.input x.text y.text x.taken y.taken x.answer y.answer) ∙ y.faulty

    all_text : (f : Bool) → AnswersWhole A limit (Some left) (Some left') (Some written) (Some a) f → AnswersWhole A limit (Some left) (Some left') (Some written) (Some b) f → a ≡ b
    all_text f x y = x.output ∙ ap (λ t. written ++ t.text) (answer_one left left' x.input y.input x.text y.text x.taken y.taken x.answer y.answer) ∙ sym y.output

    part_text : AnswersWholeInPart A limit (Some left) (Some left') (Some written) (Some a) → AnswersWholeInPart A limit (Some left) (Some left') (Some written) (Some b)
        → length a ≡ length b → a ≡ b
    part_text x y =
        let P : AnswerText → Type 0 = λ t. AppendsPrefix (Some written) (Some a) t.text in
        prefix_of_one written a b y.text.text (subst P (answer_one left left' x.input y.input x.text y.text x.taken y.taken x.answer y.answer) x.output) y.output

    texts : (s : Status) → HasWholeRun A limit (Some left) (Some left') (Some written) (Some a) s → HasWholeRun A limit (Some left) (Some left') (Some written) (Some b) s → IsOneText s a b
    texts Done x y = one_text Done a b (all_text false x y)
    texts Faults x y = one_text Faults a b (all_text true x y)
    texts Usage x y = absurd x
    texts ReadFault x y = kept ReadFault written a b x.1 y.1
    texts WriteFault x y = record { whole = λ other. absurd (other refl); as_long = part_text x y }
    texts NoMemory x y = kept NoMemory written a b x.1 y.1
    texts TooLong x y = kept TooLong written a b x.1 y.1

  pub whole_run_one : RunIsTheOne (IsWholeRun A limit)
  whole_run_one left left' written a b read read' write write' steps m n asked asked' asked'' s t can_read can_write some some' x y =
      let same : s ≡ t = end_one (AnswersWhole A limit (Some left) (Some left') (Some written) (Some a)) (AnswersWhole A limit (Some left) (Some left') (Some written) (Some b))
      (TakesPast limit (Some left) (Some left')) (TakesPast limit (Some left) (Some left'))
      (flag_one left left' written a b) (λ f p q. past_one left left' p.input q.bytes p.taken q.taken p.within q.past)
      (λ f p q. past_one left left' q.input p.bytes q.taken p.taken q.within p.past) read read' write write' can_read can_write s t some some'
      (run_part (Some left) (Some left') (Some written) (Some a) s x.run) x.failures (run_part (Some left) (Some left') (Some written) (Some b) t y.run) y.failures in
      let P : Status → Type 0 = λ u. HasWholeRun A limit (Some left) (Some left') (Some written) (Some b) u in
      (same, texts left left' written a b s x.run (subst P (sym same) y.run))

  pub calm_whole_one : CalmRunIsTheOne (IsWholeRun A limit)
  calm_whole_one before after other input written a b s t left old new new' calm calm' some some' x y =
      ⊎_elim (λ (long : limit < length input).
      let is_long : s ≡ TooLong = found s _ some (x.too_long input left long calm) in
      let is_long' : t ≡ TooLong = found t _ some' (y.too_long input left long calm') in
      let P : Status → Type 0 = λ u. HasWholeRun A limit before.left after.left (Some written) (Some a) u in
      let Q : Status → Type 0 = λ u. HasWholeRun A limit before.left other.left (Some written) (Some b) u in
      let p : P s = rw (old, new) at x.run in
      let q : Q t = rw (old, new') at y.run in
      (is_long ∙ sym is_long', (kept TooLong written a b (subst P is_long p).1 (subst Q is_long' q).1).whole (λ e. cc)))
      (λ (within : length input ≤ limit).
      let p : WritesAnswer A input (Some written) (Some a) s = rw (old, new) at (found s _ some (x.output input left within calm)) in
      let q : WritesAnswer A input (Some written) (Some b) t = rw (old, new') at (found t _ some' (y.output input left within calm')) in
      let both = whole_output_one A one input written a b s t p q in
      (both.1, both.0)) (cases_lt limit (length input))
