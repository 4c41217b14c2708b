-- Runs over lines.
use Rattle.std.proofs.Common.{◌≡◌, ◌∙◌, ◌+◌, ◌<◌, ◌≤◌, ◌++◌, ◌⊎◌, ℕ, Bool, true, false, List, Some, length, take, drop, ⊎_elim, ap, arith, inl, inr, refl, sym, subst, append_assoc}
use Rattle.std.proofs.lemmas.Bool.{cases_lt}
use Rattle.std.proofs.lemmas.List.{append_cancel_right, take-append-drop}
use Rattle.std.specs.declared.option.Option.{Option}
use Rattle.std.specs.Io.KnownBytes.{IsAtEnd}
use Rattle.line_engine.specs.AnswerText.{AnswerText}
use Rattle.line_engine.specs.LineLaws.{CutAnywhere}
use Rattle.line_engine.specs.Lines.{ended_lines, lines, unended}
use Rattle.line_engine.specs.Output.{AreAnswers, WritesOutput, any_fault, written_of}
use Rattle.line_engine.specs.Run.{AnswersAll, AnswersLimit, AnswersPrefix, HasRun}
use Rattle.line_engine.specs.declared.status.Status.{Status}
use Rattle.line_engine.specs.declared.status.Status.TheVariants.{Done, Faults, Usage, ReadFault, WriteFault, NoMemory, TooLong}
use Rattle.line_engine.proofs.Public.{answers_one, output_one}
use Rattle.fixed_command.specs.Runs.{HasLineRun}
use Rattle.program_laws.specs.Runs.{CalmRunIsTheOne, IsOneText, RunIsTheOne}
use Rattle.program_laws.proofs.EndLemmas.{Part, end_one}
use Rattle.program_laws.proofs.TextLemmas.{begins_or, begun_one, one_text, taken_as_many}

pub taken_one : (left left' a b : List ℕ) → left ≡ a ++ left' → left ≡ b ++ left' → a ≡ b
taken_one left left' a b x y = append_cancel_right a b left' (sym x ∙ y)

-- a fact that holds unless memory is lacking, if memory is not lacking
pub found : (s : Status) (P : Type 0) → (s ≡ NoMemory → ⊥) → (s ≡ NoMemory) ⊎ P → P
found s P some (inl none) = absurd (some none)
found s P some (inr p) = p

module _ (A : List ℕ → AnswerText → Type 0) (one : (input : List ℕ) (a b : AnswerText) → A input a → A input b → a ≡ b) where
  replies_one : (xs ys : List (List ℕ)) (rs qs : List AnswerText) → xs ≡ ys → AreAnswers A xs rs → AreAnswers A ys qs → rs ≡ qs
  replies_one xs ys rs qs same x y =
      let P : List (List ℕ) → Type 0 = λ l. AreAnswers A l rs in
      answers_one A one ys rs qs (subst P same x) y

  -- the text written for the same lines
  lines_text : (written a b : List ℕ) (xs ys : List (List ℕ)) (rs qs : List AnswerText) → xs ≡ ys → AreAnswers A xs rs → AreAnswers A ys qs
      → a ≡ written ++ written_of rs → b ≡ written ++ written_of qs → a ≡ b
  lines_text written a b xs ys rs qs same x y p q = p ∙ ap (λ r. written ++ written_of r) (replies_one xs ys rs qs same x y) ∙ sym q

  -- texts of the same length for the first of the same lines
  until_one : (written a b : List ℕ) (xs ys : List (List ℕ)) → xs ≡ ys → AnswersPrefix A xs (Some written) (Some a) → AnswersPrefix A ys (Some written) (Some b)
      → length a ≡ length b → a ≡ b
  until_one written a b xs ys same x y n =
      ⊎_elim (λ h. begun_one written a b (written_of x.replies) (written_of y.replies) h.0 h.1 x.output y.output n)
      (λ h. sym (begun_one written b a (written_of y.replies) (written_of x.replies) h.0 h.1 y.output x.output (sym n)))
      (begins_or A one x.some x.more y.some y.more x.replies y.replies (sym x.cut ∙ same ∙ y.cut) x.answers y.answers)

  module _ (cut : CutAnywhere) (limit per_byte extra : ℕ) where
    -- the lines that ended within the limit are the first of all lines
    among : (left' written written' : Option (List ℕ)) (bytes : List ℕ) → AnswersPrefix A (ended_lines (take limit bytes)) written written' ⊎ (IsAtEnd left' × (length bytes ≤ limit) × AnswersPrefix A (lines bytes) written written')
        → AnswersPrefix A (lines bytes) written written'
    among left' written written' bytes (inr x) = x.2
    among left' written written' bytes (inl x) =
        let both = cut (take limit bytes) (drop limit bytes) in
        let others : List (List ℕ) = lines (unended (take limit bytes) ++ drop limit bytes) in
        let whole : lines bytes ≡ x.some ++ (x.more ++ others) = ap lines (sym (take-append-drop limit bytes)) ∙ both.all ∙ ap (λ l. l ++ others) x.cut ∙ append_assoc x.some x.more others in
        record { some = x.some; more = x.more ++ others; cut = whole; replies = x.replies; answers = x.answers; output = x.output }

    run_part : (left left' written written' : Option (List ℕ)) (s : Status) → HasRun A limit left left' written written' s
        → Part (AnswersAll A limit left left' written written') (AnswersLimit A limit left left' written written') s
    run_part left left' written written' Done x = x
    run_part left left' written written' Faults x = x
    run_part left left' written written' Usage x = x
    run_part left left' written written' ReadFault x = tt
    run_part left left' written written' WriteFault x = tt
    run_part left left' written written' NoMemory x = tt
    run_part left left' written written' TooLong x = x

    module _ (left left' written a b : List ℕ) where
      flag_one : (f g : Bool) → AnswersAll A limit (Some left) (Some left') (Some written) (Some a) f → AnswersAll A limit (Some left) (Some left') (Some written) (Some b) g → f ≡ g
      flag_one f g x y =
          let same : x.input ≡ y.input = taken_one left left' x.input y.input x.taken y.taken in
          sym x.faulty ∙ ap any_fault (replies_one (lines x.input) (lines y.input) x.replies y.replies (ap lines same) x.answers y.answers) ∙ y.faulty

      not_past : (f : Bool) → AnswersAll A limit (Some left) (Some left') (Some written) (Some a) f → AnswersLimit A limit (Some left) (Some left') (Some written) (Some b) → ⊥
      not_past f x y =
          let n : length x.input ≡ length y.bytes = ap length (taken_one left left' x.input y.bytes x.taken y.taken) in
          let few : length x.input ≤ limit = x.within in
          let many : length y.bytes ≡ limit + 1 = y.past in
          absurd (omega arith)

      past_not : (f : Bool) → AnswersLimit A limit (Some left) (Some left') (Some written) (Some a) → AnswersAll A limit (Some left) (Some left') (Some written) (Some b) f → ⊥
      past_not f x y =
          let n : length x.bytes ≡ length y.input = ap length (taken_one left left' x.bytes y.input x.taken y.taken) in
          let many : length x.bytes ≡ limit + 1 = x.past in
          let few : length y.input ≤ limit = y.within in
          absurd (omega arith)

      all_text : (f : Bool) → AnswersAll A limit (Some left) (Some left') (Some written) (Some a) f → AnswersAll A limit (Some left) (Some left') (Some written) (Some b) f → a ≡ b
      all_text f x y = lines_text written a b (lines x.input) (lines y.input) x.replies y.replies (ap lines (taken_one left left' x.input y.input x.taken y.taken)) x.answers y.answers x.output y.output

      texts : (s : Status) → HasRun A limit (Some left) (Some left') (Some written) (Some a) s → HasRun A limit (Some left) (Some left') (Some written) (Some b) s → IsOneText s a b
      texts Done x y = one_text Done a b (all_text false x y)
      texts Faults x y = one_text Faults a b (all_text true x y)
      texts Usage x y = absurd x
      texts ReadFault x y =
          let same : x.bytes ≡ y.bytes = taken_one left left' x.bytes y.bytes x.taken y.taken in
          one_text ReadFault a b (lines_text written a b (ended_lines x.bytes) (ended_lines y.bytes) x.replies y.replies (ap ended_lines same) x.answers y.answers x.output y.output)
      texts WriteFault x y =
          let same : x.bytes ≡ y.bytes = taken_one left left' x.bytes y.bytes x.taken y.taken in record {
            whole = λ other. absurd (other refl);
            as_long = until_one written a b (lines x.bytes) (lines y.bytes) (ap lines same)
                (among (Some left') (Some written) (Some a) x.bytes x.cut_short) (among (Some left') (Some written) (Some b) y.bytes y.cut_short);
          }
      texts NoMemory x y = let same : Some a ≡ Some b = x.1 ∙ sym y.1 in one_text NoMemory a b cc
      texts TooLong x y =
          let same : x.bytes ≡ y.bytes = taken_one left left' x.bytes y.bytes x.taken y.taken in
          one_text TooLong a b (lines_text written a b (ended_lines (take limit x.bytes)) (ended_lines (take limit y.bytes)) x.replies y.replies (ap (λ l. ended_lines (take limit l)) same) x.answers y.answers x.output y.output)

    pub line_run_one : RunIsTheOne (HasLineRun A limit per_byte extra)
    line_run_one left left' written a b read read' write write' steps m n asked asked' asked'' s t can_read can_write some some' x y =
        let same : s ≡ t = end_one (AnswersAll A limit (Some left) (Some left') (Some written) (Some a)) (AnswersAll A limit (Some left) (Some left') (Some written) (Some b))
        (AnswersLimit A limit (Some left) (Some left') (Some written) (Some a)) (AnswersLimit A limit (Some left) (Some left') (Some written) (Some b))
        (flag_one left left' written a b) (not_past left left' written a b) (past_not left left' written a b) read read' write write' can_read can_write s t some some'
        (run_part (Some left) (Some left') (Some written) (Some a) s x.run) x.failures (run_part (Some left) (Some left') (Some written) (Some b) t y.run) y.failures in
        let P : Status → Type 0 = λ u. HasRun A limit (Some left) (Some left') (Some written) (Some b) u in
        (same, texts left left' written a b s x.run (subst P (sym same) y.run))

    -- inputs longer than the limit
    long_text : (input written a b : List ℕ) (left left' : Option (List ℕ)) → HasRun A limit (Some input) left (Some written) (Some a) TooLong
        → HasRun A limit (Some input) left' (Some written) (Some b) TooLong → a ≡ b
    long_text input written a b left left' x y =
        let same : x.bytes ≡ y.bytes = taken_as_many input left left' x.bytes y.bytes (x.past ∙ sym y.past) x.taken y.taken in
        lines_text written a b (ended_lines (take limit x.bytes)) (ended_lines (take limit y.bytes)) x.replies y.replies (ap (λ l. ended_lines (take limit l)) same) x.answers y.answers x.output y.output

    pub calm_line_one : CalmRunIsTheOne (HasLineRun A limit per_byte extra)
    calm_line_one before after other input written a b s t left old new new' calm calm' some some' x y =
        ⊎_elim (λ (long : limit < length input).
        let is_long : s ≡ TooLong = found s _ some (x.too_long input left long calm) in
        let is_long' : t ≡ TooLong = found t _ some' (y.too_long input left long calm') in
        let P : Status → Type 0 = λ u. HasRun A limit (Some input) after.left (Some written) (Some a) u in
        let Q : Status → Type 0 = λ u. HasRun A limit (Some input) other.left (Some written) (Some b) u in
        let p : P s = rw (left, old, new) at x.run in
        let q : Q t = rw (left, old, new') at y.run in
        (is_long ∙ sym is_long', long_text input written a b after.left other.left (subst P is_long p) (subst Q is_long' q)))
        (λ (within : length input ≤ limit).
        let p : WritesOutput A input (Some written) (Some a) s = rw (old, new) at (found s _ some (x.output input left within calm)) in
        let q : WritesOutput A input (Some written) (Some b) t = rw (old, new') at (found t _ some' (y.output input left within calm')) in
        let both = output_one A one input written a b s t p q in
        (both.1, both.0)) (cases_lt limit (length input))
