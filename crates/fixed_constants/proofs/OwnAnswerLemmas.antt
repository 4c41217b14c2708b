-- An answer without a fault is the answer to itself.
use Rattle.std.proofs.Common.{◌≡◌, ℕ, false, List, [], sym, ap, ◌∙◌, subst, inl, inr}
use Rattle.std.proofs.lemmas.Bool.{false≢true}
use Rattle.line_engine.specs.AnswerText.{AnswerText}
use Rattle.line_engine.specs.Lines.{lines}
use Rattle.fixed_constants.specs.Answer.{IsWholeAnswer}
use Rattle.fixed_constants.specs.Canonical.{canonical_text}
use Rattle.fixed_constants.specs.Constants.{ConstantParts, IsConstantsOf}
use Rattle.fixed_constants.specs.Laws.{WrittenReadsBack}
use Rattle.fixed_constants.specs.Lemmas.ConstantsLemmas.{declare_one, not_both}

-- the answer to an input with these constants is their canonical text
pub is_canonical : (input : List ℕ) (t : List ConstantParts) (a : AnswerText) → IsConstantsOf input t → IsWholeAnswer input a → a ≡ record { text = canonical_text t; fault = false }
is_canonical input t a are (inl x) =
    let same : x.constants ≡ t = declare_one [] (lines input) x.constants t x.are are in
    let R : List ℕ → AnswerText = λ text. record { text = text; fault = false } in
    ap (λ f. record { text = a.text; fault = f }) x.fault ∙ ap R (x.text ∙ ap canonical_text same)
is_canonical input t a are (inr x) = absurd (not_both [] (lines input) t x.line x.why are x.is)

pub one_answer : (input other : List ℕ) (t : List ConstantParts) (a b : AnswerText) → IsConstantsOf input t → IsConstantsOf other t → IsWholeAnswer input a → IsWholeAnswer other b → a ≡ b
one_answer input other t a b x y is also = is_canonical input t a x is ∙ sym (is_canonical other t b y also)

pub own_answer : WrittenReadsBack → (input : List ℕ) (a : AnswerText) → IsWholeAnswer input a → a.fault ≡ false → IsWholeAnswer a.text a
own_answer again input a (inl x) clean =
    let C : List ℕ → Type 0 = λ text. IsConstantsOf text x.constants in
    inl (record { constants = x.constants; are = subst C (sym x.text) (again input x.constants x.are); text = x.text; fault = clean })
own_answer again input a (inr x) clean = absurd (false≢true (sym clean ∙ x.fault))
