-- An input has one answer in a form.
use Rattle.std.proofs.Common.{◌≡◌, ℕ, ◌+◌, List, [], ◌∷◌, sym, ap, ◌∙◌, arith, inl, inr}
use Rattle.line_engine.specs.AnswerText.{AnswerText}
use Rattle.line_engine.specs.Lines.{lines}
use Rattle.fixed_constants.specs.Answer.{fault_line}
use Rattle.fixed_constants.specs.Constants.{ConstantParts, IsConstantsOf}
use Rattle.fixed_constants.specs.Forms.{IsFormAnswer, IsFormFault, IsReservedOn, IsSourceAnswer, ReservedFrom}
use Rattle.fixed_constants.specs.Forms.{form_text}
use Rattle.fixed_constants.specs.Lemmas.ConstantsLemmas.{IsSameFault, answer_one, answer_text_is, declare_one, fail_one}
use Rattle.fixed_constants.specs.Lemmas.ConstantsLemmas.{not_both}
use Rattle.fixed_constants.specs.declared.fault.ConstantFault.{ConstantFault}
use Rattle.fixed_constants.specs.declared.form.Form.{Form}
use Rattle.fixed_constants.specs.declared.form.Form.TheVariants.{Canonical, C, Rust}

pub reserved_one : (n : ℕ) (form : Form) (guard : List ℕ) (ls : List (List ℕ)) (p q : ℕ)
    → ReservedFrom n form guard ls p → ReservedFrom n form guard ls q → p ≡ q
reserved_one n form guard [] p q a b = absurd a
reserved_one n form guard (l ∷ ls) p q (inl a) (inl b) = a.1 ∙ sym b.1
reserved_one n form guard (l ∷ ls) p q (inl a) (inr b) = absurd (b.0 a.0)
reserved_one n form guard (l ∷ ls) p q (inr a) (inl b) = absurd (a.0 b.0)
reserved_one n form guard (l ∷ ls) p q (inr a) (inr b) = reserved_one (n + 1) form guard ls p q a.1 b.1

pub form_fault_one : (form : Form) (guard text : List ℕ) (p q : ℕ) (f g : ConstantFault)
    → IsFormFault form guard text p f → IsFormFault form guard text q g → IsSameFault p q f g
form_fault_one form guard text p q f g (inl a) (inl b) = fail_one [] (lines text) p q f g a.0 b.0
form_fault_one form guard text p q f g (inl a) (inr b) = let early = a.1 q b.1 in let late = b.2 p f a.0
    in absurd (omega arith)
form_fault_one form guard text p q f g (inr a) (inl b) = let early = b.1 p a.1 in let late = a.2 q g b.0
    in absurd (omega arith)
form_fault_one form guard text p q f g (inr a) (inr b) = record
    { line = reserved_one 1 form guard (lines text) p q a.1 b.1; fault = a.0 ∙ sym b.0 }

never_text : (form : Form) (guard input : List ℕ) (t : List ConstantParts) (p : ℕ) (f : ConstantFault)
    → IsConstantsOf input t → ((q : ℕ) → IsReservedOn form guard input q → ⊥) → IsFormFault form guard input p f → ⊥
never_text form guard input t p f are free (inl h) = not_both [] (lines input) t p f are h.0
never_text form guard input t p f are free (inr h) = free p h.1

source_one : (form : Form) (guard input : List ℕ) (a b : AnswerText) → IsSourceAnswer form guard input a
    → IsSourceAnswer form guard input b → a ≡ b
source_one form guard input a b (inl x) (inl y) = answer_text_is a b
    (x.text ∙ (ap (form_text form guard) (declare_one [] (lines input) x.constants y.constants x.are y.are) ∙ sym
    y.text)) (x.fault ∙ sym y.fault)
source_one form guard input a b (inl x) (inr y) = absurd (never_text form guard input x.constants y.line y.why x.are
    x.free y.is)
source_one form guard input a b (inr x) (inl y) = absurd (never_text form guard input y.constants x.line x.why y.are
    y.free x.is)
source_one form guard input a b (inr x) (inr y) =
    let same = form_fault_one form guard input x.line y.line x.why y.why x.is y.is in
    answer_text_is a b (x.text ∙ (ap (λ p. fault_line p x.why) same.line ∙
    (ap (λ f. fault_line y.line f) same.fault ∙ sym y.text))) (x.fault ∙ sym y.fault)

pub form_answer_one : (form : Form) (guard input : List ℕ) (a b : AnswerText) → IsFormAnswer form guard input a
    → IsFormAnswer form guard input b → a ≡ b
form_answer_one Canonical guard = answer_one
form_answer_one C guard = source_one C guard
form_answer_one Rust guard = source_one Rust guard
