-- What a run writes of an answer.
use Rattle.std.proofs.Common.{◌≡◌, ◌⊎◌, ℕ, ◌≤◌, ◌<◌, Bool, true, false, List, Option, None, Some, length, refl, inl, inr, sym, ap, subst, arith, ◌∙◌, true≢false}
use Rattle.line_engine.specs.AnswerText.{AnswerText}
use Rattle.line_engine.specs.Asked.{AskedWithin}
use Rattle.line_engine.specs.Filled.{HasFilled}
use Rattle.line_engine.specs.Inner.Whole.{WritesWhole}
use Rattle.line_engine.specs.Output.{AppendsPrefix, status_of}
use Rattle.line_engine.specs.Program.{Outside}
use Rattle.line_engine.specs.Refusals.{IsProduct, IsWritten, refusal_reply, reply_of, written_refusal}
use Rattle.line_engine.specs.Run.{HasFailures, WritesText}
use Rattle.line_engine.specs.WholeRun.{AnswersWhole, AnswersWholeInPart, HasWholeRun, IsWholeRun, Undisturbed, WritesAnswer}
use Rattle.line_engine.specs.declared.refusal.WholeRefusal.{WholeRefusal}
use Rattle.line_engine.specs.declared.status.Status.{Status}
use Rattle.line_engine.specs.declared.status.Status.TheVariants.{Done, Faults, Usage, ReadFault, WriteFault, NoMemory, TooLong}
use Rattle.line_engine.specs.declared.whole.Filled.TheVariants.{End}
use Rattle.line_engine.specs.declared.whole_rule.WholeAnswer.{WholeAnswer}
use Rattle.line_engine.specs.declared.whole_rule.WholeAnswer.TheVariants.{Text, Refused}
use Rattle.line_engine.proofs.TakenLemmas.{all_taken, few_taken}

-- a text that is not a refusal is written as it is
pub written_text : (writes : Bool) (A : List ℕ → AnswerText → Type 0) (input text : List ℕ) → A input (record { text = text; fault = false }) → IsWritten writes A input (record { text = text; fault = false })
written_text true A input text answers = answers
written_text false A input text answers = inr (answers, refl)

pub written_refused : (writes : Bool) (A : List ℕ → AnswerText → Type 0) (input : List ℕ) (number : ℕ) (cause : List ℕ) → A input (refusal_reply number cause) → IsWritten writes A input (record { text = written_refusal writes number cause; fault = true })
written_refused true A input number cause answers = answers
written_refused false A input number cause answers = inl (record { refusal = refusal_reply number cause; answers = answers; faulty = refl; answer_is = refl })

-- an input has one product
pub product_one : (A : List ℕ → AnswerText → Type 0) → ((input : List ℕ) (a b : AnswerText) → A input a → A input b → a ≡ b) → (input : List ℕ) (a b : AnswerText) → IsProduct A input a → IsProduct A input b → a ≡ b
product_one A one input a b (inl x) (inl y) = x.answer_is ∙ sym y.answer_is
product_one A one input a b (inl x) (inr y) = absurd (true≢false (sym x.faulty ∙ ap (λ t. t.fault) (one input x.refusal b x.answers y.0) ∙ y.1))
product_one A one input a b (inr x) (inl y) = absurd (true≢false (sym y.faulty ∙ ap (λ t. t.fault) (one input y.refusal a y.answers x.0) ∙ x.1))
product_one A one input a b (inr x) (inr y) = one input a b x.0 y.0

pub written_one : (writes : Bool) (A : List ℕ → AnswerText → Type 0) → ((input : List ℕ) (a b : AnswerText) → A input a → A input b → a ≡ b) → (input : List ℕ) (a b : AnswerText) → IsWritten writes A input a → IsWritten writes A input b → a ≡ b
written_one true A one = one
written_one false A one = product_one A one

-- ---- how a run ends
-- a text was written for an input, or a prefix of it
module _ (A : List ℕ → AnswerText → Type 0) (limit : ℕ) (left left' : Option (List ℕ)) (reads reads' : ℕ) (input : List ℕ) (filled : HasFilled limit left left' reads reads' input End) (text : List ℕ) (written written' : Option (List ℕ)) (writes writes' : ℕ) where
  text_run : (fault : Bool) → A input (record { text = text; fault = fault }) → (status : Status) → WritesText text (status_of fault) written written' writes writes' status → HasWholeRun A limit left left' written written' status
  text_run true answers status (inl x) = subst (HasWholeRun A limit left left' written written') (sym x.0) (record { input = input; taken = filled.0; at_end = filled.1; within = filled.2; text = record { text = text; fault = true }; answer = answers; output = x.1; faulty = refl })
  text_run false answers status (inl x) = subst (HasWholeRun A limit left left' written written') (sym x.0) (record { input = input; taken = filled.0; at_end = filled.1; within = filled.2; text = record { text = text; fault = false }; answer = answers; output = x.1; faulty = refl })
  text_run fault answers status (inr x) = subst (HasWholeRun A limit left left' written written') (sym x.0) (record { input = input; taken = filled.0; at_end = filled.1; within = filled.2; text = record { text = text; fault = fault }; answer = answers; output = x.1 })

  text_failures : (fault : Bool) (status : Status) → WritesText text (status_of fault) written written' writes writes' status → HasFailures reads reads' writes writes' status
  text_failures true status (inl x) = subst (HasFailures reads reads' writes writes') (sym x.0) (record { source = filled.3; sink = x.2 })
  text_failures false status (inl x) = subst (HasFailures reads reads' writes writes') (sym x.0) (record { source = filled.3; sink = x.2 })
  text_failures fault status (inr x) = subst (HasFailures reads reads' writes writes') (sym x.0) (filled.3, x.2)

module _ (A : List ℕ → AnswerText → Type 0) (limit : ℕ) (left left' : Option (List ℕ)) (reads reads' : ℕ) (input : List ℕ) (filled : HasFilled limit left left' reads reads' input End) (w : Bool) (written written' : Option (List ℕ)) (writes writes' : ℕ) (status : Status) (told : Option WholeRefusal) where
  pub written_run : (answer : WholeAnswer) → A input (reply_of answer) → WritesWhole w answer input written written' writes writes' status told → HasWholeRun (IsWritten w A) limit left left' written written' status
  written_run (Text text) answers ends = text_run (IsWritten w A) limit left left' reads reads' input filled text.items written written' writes writes' false (written_text w A input text.items answers) status ends.0
  written_run (Refused number cause) answers (inl x) = subst (HasWholeRun (IsWritten w A) limit left left' written written') (sym x.0) (record { bytes = input; taken = filled.0; bound = omega (arith, filled.2) }, x.1)
  written_run (Refused number cause) answers (inr x) = text_run (IsWritten w A) limit left left' reads reads' input filled (written_refusal w number cause.items) written written' writes writes' true (written_refused w A input number cause.items answers) status x.0

  pub written_failures : (answer : WholeAnswer) → WritesWhole w answer input written written' writes writes' status told → HasFailures reads reads' writes writes' status
  written_failures (Text text) ends = text_failures A limit left left' reads reads' input filled text.items written written' writes writes' false status ends.0
  written_failures (Refused number cause) (inl x) = subst (HasFailures reads reads' writes writes') (sym x.0) (record { source = filled.3; sink = x.2 })
  written_failures (Refused number cause) (inr x) = text_failures A limit left left' reads reads' input filled (written_refusal w number cause.items) written written' writes writes' true status x.0

-- ---- what follows for a known input
module _ (A : List ℕ → AnswerText → Type 0) (one : (input : List ℕ) (a b : AnswerText) → A input a → A input b → a ≡ b) (limit : ℕ) (before after : Outside) where
  answered : (fault : Bool) (input : List ℕ) → before.left ≡ Some input → AnswersWhole A limit before.left after.left before.written after.written fault → WritesAnswer A input before.written after.written (status_of fault)
  answered fault input is x = record {
    text = x.text;
    answer = subst (λ i. A i x.text) (all_taken before.left after.left x.input input is x.taken x.at_end) x.answer;
    output = x.output;
    faulty = ap status_of (sym x.faulty);
  }

  output_of : (status : Status) → HasWholeRun A limit before.left after.left before.written after.written status → HasFailures before.read_failures after.read_failures before.write_failures after.write_failures status
      → (input : List ℕ) → before.left ≡ Some input → length input ≤ limit → Undisturbed before after → (status ≡ NoMemory) ⊎ WritesAnswer A input before.written after.written status
  output_of Done run failures input is fits calm = inr (answered false input is run)
  output_of Faults run failures input is fits calm = inr (answered true input is run)
  output_of Usage run failures input is fits calm = absurd run
  output_of ReadFault run failures input is fits calm = absurd (calm.0 failures.0)
  output_of WriteFault run failures input is fits calm = absurd (calm.1 failures.1)
  output_of NoMemory run failures input is fits calm = inl refl
  output_of TooLong run failures input is fits calm =
      let few : length run.0.bytes ≤ length input = few_taken before.left after.left run.0.bytes input is run.0.taken in
      absurd (omega (arith, run.0.past))

  long_of : (status : Status) → HasWholeRun A limit before.left after.left before.written after.written status → HasFailures before.read_failures after.read_failures before.write_failures after.write_failures status
      → (input : List ℕ) → before.left ≡ Some input → limit < length input → Undisturbed before after → (status ≡ NoMemory) ⊎ (status ≡ TooLong)
  long_of Done run failures input is past calm = absurd (omega (arith, run.within, ap length (all_taken before.left after.left run.input input is run.taken run.at_end)))
  long_of Faults run failures input is past calm = absurd (omega (arith, run.within, ap length (all_taken before.left after.left run.input input is run.taken run.at_end)))
  long_of Usage run failures input is past calm = absurd run
  long_of ReadFault run failures input is past calm = absurd (calm.0 failures.0)
  long_of WriteFault run failures input is past calm = absurd (calm.1 failures.1)
  long_of NoMemory run failures input is past calm = inl refl
  long_of TooLong run failures input is past calm = inr refl

  prefix_of : AnswersWholeInPart A limit before.left after.left before.written after.written → (input : List ℕ) (answer : AnswerText) → before.left ≡ Some input → A input answer → AppendsPrefix before.written after.written answer.text
  prefix_of x input answer is answers =
      let same : x.text ≡ answer = one input x.text answer (subst (λ i. A i x.text) (all_taken before.left after.left x.input input is x.taken x.at_end) x.answer) answers in
      subst (λ (t : AnswerText). AppendsPrefix before.written after.written t.text) same x.output

  pub whole_run : (status : Status) → HasWholeRun A limit before.left after.left before.written after.written status → HasFailures before.read_failures after.read_failures before.write_failures after.write_failures status → AskedWithin limit before.asked after.asked → IsWholeRun A limit before after status
  whole_run status run failures asked = record {
    output = output_of status run failures;
    too_long = long_of status run failures;
    run = run;
    prefix_on_write_fault = λ is. prefix_of (subst (HasWholeRun A limit before.left after.left before.written after.written) is run);
    asked = asked;
    failures = failures;
  }
