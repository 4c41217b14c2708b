-- A text has at most one error, and a name at most one first constant.
use Rattle.std.proofs.Common.{◌≡◌, ◌∙◌, ℕ, List, [], ◌∷◌, ap, inl, inr, refl, sym}
use Rattle.line_engine.specs.Lines.{lines}
use Rattle.fixed_constants.specs.Constants.{ConstantParts, IsFirstNamed}
use Rattle.fixed_constants.specs.Laws.{ErrorIsTheOne, FirstNamedIsTheOne, FormErrorIsTheOne}
use Rattle.fixed_constants.specs.Lemmas.ConstantsLemmas.{fail_one}
use Rattle.fixed_constants.specs.Lemmas.FormLemmas.{form_fault_one}
use Rattle.fixed_constants.specs.declared.fault.ConstantFault.{ConstantFault}
use Rattle.fixed_constants.specs.declared.fault.ConstantsError.TheVariants.{NoMemory, Refused}

refused_alike : (p q : ℕ) (f g : ConstantFault) → p ≡ q → f ≡ g → Refused p f ≡ Refused q g
refused_alike p q f g a b = ap (λ x. Refused x f) a ∙ ap (λ y. Refused q y) b

pub error_one : ErrorIsTheOne
error_one text (Refused p f) (Refused q g) some more x y =
    let same = fail_one [] (lines text) p q f g x y in
    refused_alike p q f g same.line same.fault
error_one text (Refused p f) NoMemory some more x y = absurd (more refl)
error_one text NoMemory b some more x y = absurd (some refl)

pub form_error_one : FormErrorIsTheOne
form_error_one form guard text (Refused p f) (Refused q g) some more x y =
    let same = form_fault_one form guard text p q f g x y in
    refused_alike p q f g same.line same.fault
form_error_one form guard text (Refused p f) NoMemory some more x y = absurd (more refl)
form_error_one form guard text NoMemory b some more x y = absurd (some refl)

named_one : (name : List ℕ) (constants : List ConstantParts) (c d : ConstantParts) → IsFirstNamed name constants c → IsFirstNamed name constants d → c ≡ d
named_one name [] c d x y = absurd x
named_one name (e ∷ constants) c d (inl x) (inl y) = x.1 ∙ sym y.1
named_one name (e ∷ constants) c d (inl x) (inr y) = absurd (y.0 x.0)
named_one name (e ∷ constants) c d (inr x) (inl y) = absurd (x.0 y.0)
named_one name (e ∷ constants) c d (inr x) (inr y) = named_one name constants c d x.1 y.1

pub first_named_one : FirstNamedIsTheOne
first_named_one name [] c x = absurd x
first_named_one name (e ∷ constants) c (inl x) = (
  λ d y. named_one name (e ∷ constants) c d (inl x) y,
  ap (λ p. p.name) x.1 ∙ x.0,
  inl x.0,
)
first_named_one name (e ∷ constants) c (inr x) =
    let more = first_named_one name constants c x.1 in
    (λ d y. named_one name (e ∷ constants) c d (inr x) y, more.1, inr more.2)
