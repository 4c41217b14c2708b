-- An operand has at most one answer.
use Rattle.std.proofs.Common.{◌≡◌, ◌∙◌, ◌+◌, ◌≤◌, ◌∷◌, ◌++◌, [], ℕ, ℤ, Bool, true, false, List, length, take, codes, ap, append_assoc, arith, length-append, refl, subst, sym}
use Rattle.fixed_bits.specs.declared.format.Policy.{Policy}
use Rattle.fixed_bits.specs.declared.mode.ReadMode.{ReadMode}
use Rattle.fixed_numeral.proofs.Public.{parts_unique}
use Rattle.fixed_numeral.specs.Messages.{message_of}
use Rattle.fixed_numeral.specs.Numeral.{Parts}
use Rattle.fixed_numeral.specs.declared.radix.Radix.TheVariants.{Dec}
use Rattle.fixed_show.proofs.Public.{decimal_error_one, word_fault_one, word_has_no_fault, word_one}
use Rattle.fixed_show.specs.BitsBlock.{fault_message}
use Rattle.fixed_show.specs.DecimalError.{IsDecimalError}
use Rattle.fixed_show.specs.Forms.{refusal}
use Rattle.fixed_show.specs.JsonText.{json_text, object_text}
use Rattle.fixed_show.specs.declared.form.Form.{Form}
use Rattle.fixed_show.specs.declared.form.Form.TheVariants.{Lines, Members}
use Rattle.fixed_amounts.specs.Facts.{AreFacts, AreNoUnits, AreUnits, IsNotShown, IsShown, values}
use Rattle.fixed_amounts.specs.Laws.{AmountBlockIsTheOne, AmountObjectIsTheOne}
use Rattle.fixed_amounts.specs.Lemmas.ReplyLemmas.{is_width, read_as_one, read_or_not, unread_one}
use Rattle.fixed_amounts.specs.Reading.{words}
use Rattle.fixed_amounts.specs.declared.facts.AmountQuestion.{AmountQuestion}
use Rattle.fixed_amounts.specs.declared.facts.AmountQuestion.TheVariants.{Numeral, Units}

shown_one : (form : Form) (mode : ReadMode) (n : ℕ) (policy : Policy) (bytes a b : List ℕ) → IsShown form mode n policy bytes a
    → IsShown form mode n policy bytes b → a ≡ b
shown_one form mode n policy bytes a b x y =
    let same = read_as_one mode bytes n policy x.units y.units x.overflowed y.overflowed x.read y.read in
    let parts : x.read.parts ≡ y.read.parts = parts_unique Dec bytes x.read.parts y.read.parts x.read.numeral.beginning y.read.numeral.beginning in
    let moved : IsDecimalError form y.read.parts n y.units x.error
    = subst (λ (v : ℤ). IsDecimalError form y.read.parts n v x.error) same.0 (subst (λ (p : Parts). IsDecimalError form p n x.units x.error) parts x.is_error) in
    let error : x.error ≡ y.error = decimal_error_one form y.read.parts n y.units x.error y.error moved y.is_error in
    x.facts_are ∙ (rw (same.0, same.1, error) (sym y.facts_are))

not_shown_one : (form : Form) (mode : ReadMode) (n : ℕ) (policy : Policy) (bytes a b : List ℕ) → IsNotShown form mode n policy bytes a
    → IsNotShown form mode n policy bytes b → a ≡ b
not_shown_one form mode n policy bytes a b x y =
    x.facts_are ∙ ap (λ k. refusal form (message_of k)) (unread_one mode bytes n policy x.kind y.kind x.unread y.unread) ∙ sym y.facts_are

units_one : (form : Form) (n : ℕ) (bytes a b : List ℕ) → AreUnits form n bytes a → AreUnits form n bytes b → a ≡ b
units_one form n bytes a b x y =
    x.facts_are ∙ ap (values form n) (word_one Dec words bytes x.units y.units is_width x.is_word y.is_word) ∙ sym y.facts_are

no_units_one : (form : Form) (bytes a b : List ℕ) → AreNoUnits form bytes a → AreNoUnits form bytes b → a ≡ b
no_units_one form bytes a b x y =
    x.facts_are ∙ ap (λ w. refusal form (fault_message w)) (word_fault_one Dec words bytes x.fault y.fault x.is_fault y.is_fault) ∙ sym y.facts_are

-- an operand does not have both an answer and a refusal
pub facts_apart : (form : Form) (q : AmountQuestion) (word a b : List ℕ) → AreFacts form q word true a → AreFacts form q word false b → ⊥
facts_apart form (Numeral n policy mode) word a b x y = read_or_not mode word n policy y.units y.overflowed x.kind y.read x.unread
facts_apart form (Units n) word a b x y = word_has_no_fault Dec words word x.fault y.units x.is_fault y.is_word

pub facts_one : (form : Form) (q : AmountQuestion) (word : List ℕ) (o p : Bool) (a b : List ℕ) → AreFacts form q word o a → AreFacts form q word p b
    → (o ≡ p) × (a ≡ b)
facts_one form (Numeral n policy mode) word true true a b x y = (refl, not_shown_one form mode n policy word a b x y)
facts_one form (Numeral n policy mode) word false false a b x y = (refl, shown_one form mode n policy word a b x y)
facts_one form (Units n) word true true a b x y = (refl, no_units_one form word a b x y)
facts_one form (Units n) word false false a b x y = (refl, units_one form n word a b x y)
facts_one form q word true false a b x y = absurd (facts_apart form q word a b x y)
facts_one form q word false true a b x y = absurd (facts_apart form q word b a y x)

pub amount_block_one : AmountBlockIsTheOne
amount_block_one q word o p a b x y = facts_one Lines q word o p a b x y

pub amount_object_one : AmountObjectIsTheOne
amount_object_one q word o p a b x y =
    let same = facts_one Members q word o p x.members y.members x.are_facts y.are_facts in
    (same.0, x.object_is ∙ ap (object_text word) same.1 ∙ sym y.object_is)

-- ---- the bytes of appended facts
pub text_short : (old new text : List ℕ) (n : ℕ) → new ≡ old ++ text → length new ≤ length old + n → length text ≤ n
text_short old new text n e h = omega (arith, ap length e, length-append old text)

pub three_pushed : (old o1 o2 o3 a b c : List ℕ) → o1 ≡ old ++ a → o2 ≡ o1 ++ b → o3 ≡ o2 ++ c → o3 ≡ old ++ (a ++ (b ++ c))
three_pushed old o1 o2 o3 a b c p q r =
    let e : o3 ≡ ((old ++ a) ++ b) ++ c = cc in
    e ∙ simp append_assoc

pub object_pushed : (old a b c bytes members : List ℕ) → a ≡ old ++ (codes "{\"given\":" ++ json_text (take 768 bytes)) → b ≡ a ++ members → c ≡ b ++ 125 ∷ [] → c ≡ old ++ object_text bytes members
unfolding object_text
object_pushed old a b c bytes members p q r =
    let x : c ≡ ((old ++ (codes "{\"given\":" ++ json_text (take 768 bytes))) ++ members) ++ 125 ∷ [] = cc in
    x ∙ simp append_assoc

pub object_short : (old a b c text : List ℕ) → length a ≤ length old + 4620 → b ≡ a ++ text → length text ≤ 1607 → c ≡ b ++ 125 ∷ [] → length c ≤ length old + 8000
object_short old a b c text p q r s = omega (arith, p, r, ap length q, length-append a text, ap length s, length-append b (125 ∷ []))
