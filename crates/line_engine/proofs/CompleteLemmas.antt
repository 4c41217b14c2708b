-- A run writes the whole output of an input within the limit, if its source and its sink do not fail.
use Rattle.std.proofs.Common.{◌≡◌, ℕ, ◌<◌, ◌≤◌, Bool, true, false, List, [], ◌∷◌, ◌++◌, length, refl, sym, ap, ◌∙◌, subst, arith, append-nil, append_assoc, inr, inl, ◌⊎◌, Option, None, Some, take, drop, ⊎_elim}
use Rattle.std.proofs.lemmas.List.{take-append-drop}
use Rattle.std.specs.Io.KnownBytes.{Consumes, IsAtEnd}
use Rattle.line_engine.specs.Failures.{HasFailed}
use Rattle.line_engine.specs.LineLaws.{AreLinesOfBoth}
use Rattle.line_engine.specs.Lines.{ended_lines, lines, unended}
use Rattle.line_engine.specs.Output.{AppendsPrefix, AreAnswers, written_of}
use Rattle.line_engine.specs.AnswerText.{AnswerText}
use Rattle.line_engine.specs.Run.{AnswersAll, AnswersPrefix, AnswersUntilWriteFault, HasFailures, HasRun, WritesOutput, status_of}
use Rattle.line_engine.specs.declared.status.Status.{Status}
use Rattle.line_engine.specs.declared.status.Status.TheVariants.{Done, Faults, Usage, ReadFault, WriteFault, NoMemory, TooLong}
use Rattle.line_engine.proofs.AnsweredLemmas.{written_of-append}
use Rattle.line_engine.proofs.LineLawLemmas.{cut_anywhere}
use Rattle.line_engine.proofs.PrefixLemmas.{part_first}
use Rattle.line_engine.proofs.TakenLemmas.{all_taken, few_taken}

module _ (A : List ℕ → AnswerText → Type 0) (limit : ℕ) (left left' written written' : Option (List ℕ)) (input : List ℕ) (is : left ≡ Some input) where
  whole : (fault : Bool) (status : Status) → status ≡ status_of fault → AnswersAll A limit left left' written written' fault → WritesOutput A input written written' status
  whole fault status ends all = record {
    replies = all.replies;
    answers = subst (λ l. AreAnswers A (lines l) all.replies) (all_taken left left' all.input input is all.taken all.at_end) all.answers;
    output = all.output;
    faulty = ends ∙ ap status_of (sym all.faulty);
  }

  pub complete : (read read' write write' : ℕ) (status : Status) → HasRun A limit left left' written written' status → HasFailures read read' write write' status
      → length input ≤ limit → (HasFailed read read' → ⊥) → (HasFailed write write' → ⊥) → (status ≡ NoMemory) ⊎ WritesOutput A input written written' status
  complete read read' write write' Done run cause fits no_read no_write = inr (whole false Done refl run)
  complete read read' write write' Faults run cause fits no_read no_write = inr (whole true Faults refl run)
  complete read read' write write' Usage run cause fits no_read no_write = absurd run
  complete read read' write write' ReadFault run cause fits no_read no_write = absurd (no_read cause.0)
  complete read read' write write' WriteFault run cause fits no_read no_write = absurd (no_write cause.1)
  complete read read' write write' NoMemory run cause fits no_read no_write = inl refl
  complete read read' write write' TooLong run cause fits no_read no_write =
      let few : length run.bytes ≤ length input = few_taken left left' run.bytes input is run.taken in
      absurd (omega (arith, run.past))

-- replies to the first lines are the first replies
same_prefix : (A : List ℕ → AnswerText → Type 0) (one : (line : List ℕ) (a b : AnswerText) → A line a → A line b → a ≡ b) (some more : List (List ℕ)) (first replies : List AnswerText)
    → AreAnswers A some first → AreAnswers A (some ++ more) replies → (tail : List AnswerText) × (replies ≡ first ++ tail)
same_prefix A one [] more [] replies answers all = (replies, refl)
same_prefix A one [] more (reply ∷ first) replies answers all = absurd answers
same_prefix A one (line ∷ some) more [] replies answers all = absurd answers
same_prefix A one (line ∷ some) more (reply ∷ first) [] answers all = absurd all
same_prefix A one (line ∷ some) more (reply ∷ first) (other ∷ replies) answers all =
    let rest : (tail : List AnswerText) × (replies ≡ first ++ tail) = same_prefix A one some more first replies answers.1 all.1 in
    (rest.0, ap (λ r. r ∷ replies) (one line other reply all.0 answers.0) ∙ ap (λ l. reply ∷ l) rest.1)

-- the bytes taken are a prefix of the input
taken_prefix : (left left' : Option (List ℕ)) (bytes input : List ℕ) → left ≡ Some input → Consumes left left' bytes → (rest : List ℕ) × (input ≡ bytes ++ rest)
taken_prefix None left' bytes input is taken = let no : ⊥ = cc in absurd no
taken_prefix (Some xs) None bytes input is taken = absurd taken
taken_prefix (Some xs) (Some rest) bytes input is taken = let same : xs ≡ input = cc in (rest, sym same ∙ taken)

module _ (A : List ℕ → AnswerText → Type 0) (one : (line : List ℕ) (a b : AnswerText) → A line a → A line b → a ≡ b) (left left' written written' : Option (List ℕ)) (input : List ℕ) (replies : List AnswerText) where
  prefix_written : (ls more : List (List ℕ)) → lines input ≡ ls ++ more → AnswersPrefix A ls written written' → AreAnswers A (lines input) replies → AppendsPrefix written written' (written_of replies)
  prefix_written ls more is prefix answers =
      let cut : lines input ≡ prefix.some ++ (prefix.more ++ more) = is ∙ ap (λ l. l ++ more) prefix.cut ∙ append_assoc prefix.some prefix.more more in
      let tail : (tail : List AnswerText) × (replies ≡ prefix.replies ++ tail)
      = same_prefix A one prefix.some (prefix.more ++ more) prefix.replies replies prefix.answers (subst (λ l. AreAnswers A l replies) cut answers) in
      subst (AppendsPrefix written written') (sym (ap written_of tail.1 ∙ written_of-append prefix.replies tail.0))
      (part_first written written' (written_of prefix.replies) (written_of tail.0) prefix.output)

  -- if writing was cut short, a prefix of the whole output was written
  pub part_of_output : (limit : ℕ) → AnswersUntilWriteFault A limit left left' written written' → left ≡ Some input → AreAnswers A (lines input) replies → AppendsPrefix written written' (written_of replies)
  part_of_output limit part is answers =
      ⊎_elim
      (λ (early : AnswersPrefix A (ended_lines (take limit part.bytes)) written written').
      let rest : (rest : List ℕ) × (input ≡ part.bytes ++ rest) = taken_prefix left left' part.bytes input is part.taken in
      let prefix = take limit part.bytes in
      let remaining = drop limit part.bytes ++ rest.0 in
      let whole : input ≡ prefix ++ remaining = rest.1 ∙ ap (λ l. l ++ rest.0) (sym (take-append-drop limit part.bytes)) ∙ append_assoc prefix (drop limit part.bytes) rest.0 in
      let both : AreLinesOfBoth prefix remaining = cut_anywhere prefix remaining in
      prefix_written (ended_lines prefix) (lines (unended prefix ++ remaining)) (ap lines whole ∙ both.all) early answers)
      (λ (late : IsAtEnd left' × (length part.bytes ≤ limit) × AnswersPrefix A (lines part.bytes) written written').
      prefix_written (lines part.bytes) [] (ap lines (sym (all_taken left left' part.bytes input is part.taken late.0)) ∙ sym (append-nil (lines part.bytes))) late.2 answers)
      part.cut_short
