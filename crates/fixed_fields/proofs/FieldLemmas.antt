-- A word has one answer about its fields.
use Rattle.std.proofs.Common.{◌≡◌, ◌∙◌, ℕ, ℤ, true, false, List, [], ◌∷◌, ◌++◌, ap, inl, inr, refl, sym}
use Rattle.fixed_show.proofs.Public.{part_fault_one, part_has_no_fault, part_one}
use Rattle.fixed_show.specs.declared.form.Form.{Form}
use Rattle.fixed_show.specs.declared.parts.PartFault.{PartFault}
use Rattle.fixed_fields.specs.Answer.{AreFields, HasFieldFault, between, field_answer, part_of, refused_text}
use Rattle.fixed_fields.specs.Fields.{fields_of}
use Rattle.fixed_fields.specs.Laws.{FieldsAnswerIsTheOne}
use Rattle.fixed_fields.specs.declared.answer.FieldsQuestion.{FieldsQuestion}
use Rattle.fixed_fields.specs.declared.list.Field.{Field}

-- ---- a word lacks one field first
fault_one : (q : FieldsQuestion) (fields : List Field) (word : List ℕ) (a b : PartFault) → HasFieldFault q fields word a → HasFieldFault q fields word b → a ≡ b
fault_one q [] word a b x y = absurd x
fault_one q (field ∷ more) word a b (inl x) (inl y) = part_fault_one q.radix (part_of q field) field.format word a b x y
fault_one q (field ∷ more) word a b (inl x) (inr y) = absurd (part_has_no_fault q.radix (part_of q field) field.format word a y.0.0 x y.0.1)
fault_one q (field ∷ more) word a b (inr x) (inl y) = absurd (part_has_no_fault q.radix (part_of q field) field.format word b x.0.0 y x.0.1)
fault_one q (field ∷ more) word a b (inr x) (inr y) = fault_one q more word a b x.1 y.1

-- it has all fields, or lacks one
not_both : (form : Form) (q : FieldsQuestion) (fields : List Field) (word text : List ℕ) (fault : PartFault) → HasFieldFault q fields word fault
    → AreFields form q fields word text → ⊥
not_both form q [] word text fault x y = absurd x
not_both form q (field ∷ more) word text fault (inl x) y = part_has_no_fault q.radix (part_of q field) field.format word fault y.bits x y.is_number
not_both form q (field ∷ more) word text fault (inr x) y = not_both form q more word y.rest fault x.1 y.are_rest

-- the numbers of its fields are the same
are_one : (form : Form) (q : FieldsQuestion) (fields : List Field) (word a b : List ℕ) → AreFields form q fields word a → AreFields form q fields word b → a ≡ b
are_one form q [] word a b x y = x ∙ sym y
are_one form q (field ∷ more) word a b x y =
    let bits : x.bits ≡ y.bits = part_one q.radix (part_of q field) field.format word x.bits y.bits x.is_format.is_width x.is_number y.is_number in
    let rest : x.rest ≡ y.rest = are_one form q more word x.rest y.rest x.are_rest y.are_rest in
    x.text_is ∙ ap (λ (v : ℤ). field_answer form word field v ++ (between form more ++ x.rest)) bits
    ∙ ap (λ (t : List ℕ). field_answer form word field y.bits ++ (between form more ++ t)) rest ∙ sym y.text_is

pub fields_answer_one : FieldsAnswerIsTheOne
fields_answer_one form q word true true a b x y =
    (refl, x.text_is ∙ ap (refused_text form word) (fault_one q (fields_of q.fields) word x.fault y.fault x.is_fault y.is_fault) ∙ sym y.text_is)
fields_answer_one form q word false false a b x y = (refl, are_one form q (fields_of q.fields) word a b x y)
fields_answer_one form q word true false a b x y = absurd (not_both form q (fields_of q.fields) word b x.fault x.is_fault y)
fields_answer_one form q word false true a b x y = absurd (not_both form q (fields_of q.fields) word a y.fault y.is_fault x)
