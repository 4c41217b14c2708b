-- A list of words has at most one first refused word, and a run has one end.
use Rattle.std.proofs.Common.{◌≡◌, ◌∙◌, ◌⊎◌, ◌++◌, ℕ, suc, Bool, true, false, List, [], ◌∷◌, Option, Some, length, ap, inl, inr, refl, sym, subst}
use Rattle.std.specs.Prelude.{All}
use Rattle.std.proofs.lemmas.Bool.{false≢true}
use Rattle.std.proofs.lemmas.List.Elements.{All-head, All-tail}
use Rattle.line_engine.specs.AnswerText.{AnswerText}
use Rattle.line_engine.specs.Output.{AreAnswers, WritesOutput, any_fault}
use Rattle.line_engine.specs.WholeRun.{WritesAnswer}
use Rattle.line_engine.specs.declared.status.Status.{Status}
use Rattle.line_engine.specs.declared.status.Status.TheVariants.{Done, Faults, Usage, ReadFault, WriteFault, NoMemory, TooLong}
use Rattle.line_engine.proofs.Public.{not_failed, output_one, whole_output_one}
use Rattle.fixed_amounts.proofs.Public.{amount_block_one, facts_apart}
use Rattle.fixed_fields.proofs.Public.{fields_answer_one}
use Rattle.fixed_show.proofs.Public.{part_fault_one, part_has_no_fault, show_facts_apart, show_refusal_one, word_fault_one, word_has_no_fault}
use Rattle.fixed_show.specs.BitsBlock.{fault_message}
use Rattle.fixed_show.specs.Forms.{refusal}
use Rattle.fixed_show.specs.PartText.{part_message}
use Rattle.fixed_show.specs.declared.form.Form.{Form}
use Rattle.fixed_show.specs.declared.form.Form.TheVariants.{Lines, Members}
use Rattle.fixed_command.specs.Blocks.{IsAnswered, IsBlock, IsDecimalAnswer, IsFormatAnswer, IsObject, WritesBlocks}
use Rattle.fixed_command.specs.Refused.{IsClean}
use Rattle.fixed_command.specs.RunLaws.{BlocksEndIsTheOne, FirstRefusedIsTheOne, LineRunIsTheOne, WholeRunIsTheOne}
use Rattle.fixed_command.specs.declared.blocks.Question.{Question}
use Rattle.fixed_command.specs.declared.blocks.Question.TheVariants.{Amount, Bits, Fields, Format, Part, Show}
use Rattle.fixed_command.proofs.LineBlockLemmas.{message_one}

abbrev refused : List ℕ → AnswerText
refused text = record { text = text; fault = true }

abbrev clean : List ℕ → AnswerText
clean text = record { text = text; fault = false }

-- ---- a word has an answer or one refusal
no_decimal_one : (form : Form) (word a b : List ℕ) → IsDecimalAnswer form word (refused a) → IsDecimalAnswer form word (refused b) → a ≡ b
no_decimal_one form word a b (inl x) y = absurd (false≢true (sym (ap (λ t. t.fault) x.answer_is)))
no_decimal_one form word a b (inr x) (inl y) = absurd (false≢true (sym (ap (λ t. t.fault) y.answer_is)))
no_decimal_one form word a b (inr x) (inr y) = ap (λ t. t.text) (x.answer_is ∙ sym y.answer_is)

refusal_one : (q : Question) (word a b : List ℕ) → IsBlock q word (refused a) → IsBlock q word (refused b) → a ≡ b
refusal_one (Show r f p m) word a b x y = (show_refusal_one m r word f p true a b x y).1
refusal_one (Bits r f) word a b x y =
    x.facts_are ∙ ap (λ w. refusal Lines (fault_message w)) (word_fault_one r f word x.fault y.fault x.is_fault y.is_fault) ∙ sym y.facts_are
refusal_one (Part r part f) word a b x y =
    x.facts_are ∙ ap (λ w. refusal Lines (part_message w)) (part_fault_one r part f word x.fault y.fault x.is_fault y.is_fault) ∙ sym y.facts_are
refusal_one (Fields question) word a b x y = (fields_answer_one Lines question word true true a b x y).1
refusal_one (Amount question) word a b x y = (amount_block_one question word true true a b x y).1
refusal_one Format word a b (inl x) y = absurd (false≢true (sym x.clean))
refusal_one Format word a b (inr x) (inl y) = absurd (false≢true (sym y.clean))
refusal_one Format word a b (inr x) (inr y) = no_decimal_one Lines word a b x.decimal y.decimal

no_decimal : (form : Form) (word a b : List ℕ) → IsDecimalAnswer form word (refused a) → IsDecimalAnswer form word (clean b) → ⊥
no_decimal form word a b (inl x) y = false≢true (sym (ap (λ t. t.fault) x.answer_is))
no_decimal form word a b (inr x) (inl y) = x.none y.places y.word_is
no_decimal form word a b (inr x) (inr y) = false≢true (ap (λ t. t.fault) y.answer_is)

no_name : (form : Form) (word a b : List ℕ) → IsFormatAnswer form word (refused a) → IsFormatAnswer form word (clean b) → ⊥
no_name form word a b (inl x) y = false≢true (sym x.clean)
no_name form word a b (inr x) (inl y) = x.none y.format y.word_is
no_name form word a b (inr x) (inr y) = no_decimal form word a b x.decimal y.decimal

not_both : (q : Question) (word a b : List ℕ) → IsBlock q word (refused a) → IsBlock q word (clean b) → ⊥
not_both (Show r f p m) word a b x y = show_facts_apart Lines m r word f p a b x y
not_both (Bits r f) word a b x y = word_has_no_fault r f word x.fault y.bits x.is_fault y.is_word
not_both (Part r part f) word a b x y = part_has_no_fault r part f word x.fault y.bits x.is_fault y.is_part
not_both (Fields question) word a b x y = false≢true (sym (fields_answer_one Lines question word true false a b x y).0)
not_both (Amount question) word a b x y = facts_apart Lines question word a b x y
not_both Format word a b x y = no_name Lines word a b x y

not_both_objects : (q : Question) (word a b : List ℕ) → IsObject q word (refused a) → IsObject q word (clean b) → ⊥
not_both_objects (Show r f p m) word a b x y = show_facts_apart Members m r word f p x.members y.members x.are_facts y.are_facts
not_both_objects (Bits r f) word a b x y = word_has_no_fault r f word x.are_facts.fault y.are_facts.bits x.are_facts.is_fault y.are_facts.is_word
not_both_objects (Part r part f) word a b x y = part_has_no_fault r part f word x.are_facts.fault y.are_facts.bits x.are_facts.is_fault y.are_facts.is_part
not_both_objects (Fields question) word a b x y = false≢true (sym (fields_answer_one Members question word true false a b x y).0)
not_both_objects (Amount question) word a b x y = facts_apart Members question word x.members y.members x.are_facts y.are_facts
not_both_objects Format word a b x y = no_name Members word a b x y

-- ---- the first refused word
first_one : (q : Question) (xs ys : List (List ℕ)) (w v : List ℕ) (more others : List (List ℕ)) (a b : List ℕ) → xs ++ w ∷ more ≡ ys ++ v ∷ others
    → All (IsClean q) xs → All (IsClean q) ys → IsBlock q w (refused a) → IsBlock q v (refused b) → (length xs ≡ length ys) × (a ≡ b)
first_one q [] [] w v more others a b e c d x y =
    let same : w ≡ v = cc in
    (refl, refusal_one q v a b (subst (λ (u : List ℕ). IsBlock q u (refused a)) same x) y)
first_one q [] (z ∷ ys) w v more others a b e c d x y =
    let same : w ≡ z = cc in
    let clear = All-head (IsClean q) z ys d in
    absurd (not_both q z a clear.0 (subst (λ (u : List ℕ). IsBlock q u (refused a)) same x) clear.1)
first_one q (z ∷ xs) [] w v more others a b e c d x y =
    let same : v ≡ z = cc in
    let clear = All-head (IsClean q) z xs c in
    absurd (not_both q z b clear.0 (subst (λ (u : List ℕ). IsBlock q u (refused b)) same y) clear.1)
first_one q (z ∷ xs) (u ∷ ys) w v more others a b e c d x y =
    let rest : xs ++ w ∷ more ≡ ys ++ v ∷ others = cc in
    let one = first_one q xs ys w v more others a b rest (All-tail (IsClean q) z xs c) (All-tail (IsClean q) u ys d) x y in
    (ap (λ n. suc n) one.0, one.1)

pub first_refused_one : FirstRefusedIsTheOne
first_refused_one q words i j a b x y =
    let one = first_one q x.some y.some x.word y.word x.more y.more (refusal Lines a) (refusal Lines b) (sym x.cut ∙ y.cut) x.clean y.clean x.refused y.refused in
    (sym x.counted ∙ one.0 ∙ y.counted, message_one a b one.1)

-- ---- runs over words
not_both_answers : (form : Form) (q : Question) (word a b : List ℕ) → IsAnswered form q word (refused a) → IsAnswered form q word (clean b) → ⊥
not_both_answers Lines q word a b x y = not_both q word x.body y.body x.is_body y.is_body
not_both_answers Members q word a b x y = not_both_objects q word a b x y

flag_by : (form : Form) (q : Question) (word : List ℕ) (o p : Bool) (a b : List ℕ) → IsAnswered form q word (record { text = a; fault = o }) → IsAnswered form q word (record { text = b; fault = p }) → o ≡ p
flag_by form q word true true a b x y = refl
flag_by form q word true false a b x y = absurd (not_both_answers form q word a b x y)
flag_by form q word false true a b x y = absurd (not_both_answers form q word b a y x)
flag_by form q word false false a b x y = refl

module _ (A : List ℕ → AnswerText → Type 0) (flag : (word : List ℕ) (x y : AnswerText) → A word x → A word y → x.fault ≡ y.fault) where
  flags_one : (words : List (List ℕ)) (xs ys : List AnswerText) → AreAnswers A words xs → AreAnswers A words ys → any_fault xs ≡ any_fault ys
  flags_one [] [] [] a b = refl
  flags_one [] [] (y ∷ ys) a b = absurd b
  flags_one [] (x ∷ xs) ys a b = absurd a
  flags_one (l ∷ ls) [] ys a b = absurd a
  flags_one (l ∷ ls) (x ∷ xs) [] a b = absurd b
  flags_one (l ∷ ls) (x ∷ xs) (y ∷ ys) a b =
      let first : x.fault ≡ y.fault = flag l x y a.0 b.0 in
      let rest = flags_one ls xs ys a.1 b.1 in
      rw (first, rest) refl

faults_one : (form : Form) (q : Question) (words : List (List ℕ)) (before a b : Option (List ℕ)) (o p : Bool) → WritesBlocks form q words before a o → WritesBlocks form q words before b p → o ≡ p
faults_one form q words before a b o p x y =
    let flag : (word : List ℕ) (t u : AnswerText) → IsAnswered form q word t → IsAnswered form q word u → t.fault ≡ u.fault = λ word t u v w. flag_by form q word t.fault u.fault t.text u.text v w in
    sym x.faulty ∙ flags_one (IsAnswered form q) flag words x.blocks y.blocks x.answers y.answers ∙ y.faulty

pub blocks_end_one : BlocksEndIsTheOne
blocks_end_one form q words before a b f f' Done Done room x y = refl
blocks_end_one form q words before a b f f' Done Faults room x y = absurd (false≢true (faults_one form q words (Some before) (Some a) (Some b) false true x.0 y.0))
blocks_end_one form q words before a b f f' Done Usage room x y = absurd y
blocks_end_one form q words before a b f f' Done ReadFault room x y = absurd y
blocks_end_one form q words before a b f f' Done WriteFault room x y = absurd (not_failed f f' room x.1 y.1)
blocks_end_one form q words before a b f f' Done NoMemory room x y = absurd y
blocks_end_one form q words before a b f f' Done TooLong room x y = absurd y
blocks_end_one form q words before a b f f' Faults Done room x y = absurd (false≢true (faults_one form q words (Some before) (Some b) (Some a) false true y.0 x.0))
blocks_end_one form q words before a b f f' Faults Faults room x y = refl
blocks_end_one form q words before a b f f' Faults Usage room x y = absurd y
blocks_end_one form q words before a b f f' Faults ReadFault room x y = absurd y
blocks_end_one form q words before a b f f' Faults WriteFault room x y = absurd (not_failed f f' room x.1 y.1)
blocks_end_one form q words before a b f f' Faults NoMemory room x y = absurd y
blocks_end_one form q words before a b f f' Faults TooLong room x y = absurd y
blocks_end_one form q words before a b f f' Usage t room x y = absurd x
blocks_end_one form q words before a b f f' ReadFault t room x y = absurd x
blocks_end_one form q words before a b f f' WriteFault Done room x y = absurd (not_failed f f' room y.1 x.1)
blocks_end_one form q words before a b f f' WriteFault Faults room x y = absurd (not_failed f f' room y.1 x.1)
blocks_end_one form q words before a b f f' WriteFault Usage room x y = absurd y
blocks_end_one form q words before a b f f' WriteFault ReadFault room x y = absurd y
blocks_end_one form q words before a b f f' WriteFault WriteFault room x y = refl
blocks_end_one form q words before a b f f' WriteFault NoMemory room x y = absurd y
blocks_end_one form q words before a b f f' WriteFault TooLong room x y = absurd y
blocks_end_one form q words before a b f f' NoMemory t room x y = absurd x
blocks_end_one form q words before a b f f' TooLong t room x y = absurd x

-- ---- runs over inputs
found : (s : Status) (P : Type 0) → (s ≡ NoMemory → ⊥) → (s ≡ NoMemory) ⊎ P → P
found s P some (inl none) = absurd (some none)
found s P some (inr p) = p

module _ (A : List ℕ → AnswerText → Type 0) (one : (input : List ℕ) (a b : AnswerText) → A input a → A input b → a ≡ b) where
  pub line_run_one : LineRunIsTheOne A
  line_run_one limit per_byte extra before after other input text a b s t left within old new new' calm calm' some some' x y =
      let p : WritesOutput A input (Some text) (Some a) s = rw (old, new) at (found s _ some (x.output input left within calm)) in
      let q : WritesOutput A input (Some text) (Some b) t = rw (old, new') at (found t _ some' (y.output input left within calm')) in
      output_one A one input text a b s t p q

  pub whole_run_one : WholeRunIsTheOne A
  whole_run_one limit before after other input text a b s t left within old new new' calm calm' some some' x y =
      let p : WritesAnswer A input (Some text) (Some a) s = rw (old, new) at (found s _ some (x.output input left within calm)) in
      let q : WritesAnswer A input (Some text) (Some b) t = rw (old, new') at (found t _ some' (y.output input left within calm')) in
      whole_output_one A one input text a b s t p q
