-- The elements of a list from an index on, and what was written or searched before it.
use Rattle.std.proofs.Common.{◌≡◌, ℕ, List, [], ◌∷◌, ◌++◌, drop, slice_get, zero, suc, refl, sym, ap, ◌∙◌, Some, None, inl, inr, append_assoc, append-nil, length, arith}
use Rattle.fixed_constants.specs.Canonical.{canonical_text, entry_text}
use Rattle.fixed_constants.specs.Constants.{ConstantParts, HasName, IsFirstNamed}
use Rattle.fixed_constants.specs.Forms.{form_line, form_lines}
use Rattle.fixed_constants.specs.declared.form.Form.{Form}

pub drop_some : {A : Type 0} → (xs : List A) (i : ℕ) (x : A) → slice_get xs i ≡ Some x → drop i xs ≡ x ∷ drop (suc i) xs
drop_some [] i x e = absurd cc
drop_some (y ∷ ys) zero x e = let same : y ≡ x = cc in ap (λ z. z ∷ ys) same
drop_some (y ∷ ys) (suc i) x e = drop_some ys i x e

pub drop_none : {A : Type 0} → (xs : List A) (i : ℕ) → slice_get xs i ≡ None → drop i xs ≡ []
drop_none [] zero e = refl
drop_none [] (suc i) e = refl
drop_none (y ∷ ys) zero e = absurd cc
drop_none (y ∷ ys) (suc i) e = drop_none ys i e

-- ---- the text of the first constants
pub text_more : (all : List ConstantParts) (i : ℕ) (c : ConstantParts) (old new : List ℕ) → slice_get all i ≡ Some c → canonical_text all ≡ old ++ canonical_text (drop i all) → new ≡ old ++ entry_text c → canonical_text all ≡ new ++ canonical_text (drop (suc i) all)
text_more all i c old new at before is =
    before ∙ (ap (λ t. old ++ canonical_text t) (drop_some all i c at) ∙ (sym (append_assoc old (entry_text c) (canonical_text (drop (suc i) all))) ∙ ap (λ t. t ++ canonical_text (drop (suc i) all)) (sym is)))

pub text_all : (all : List ConstantParts) (i : ℕ) (text : List ℕ) → slice_get all i ≡ None → canonical_text all ≡ text ++ canonical_text (drop i all) → text ≡ canonical_text all
text_all all i text at before = sym (before ∙ (ap (λ t. text ++ canonical_text t) (drop_none all i at) ∙ append-nil text))

-- ---- the search for a name among the constants
pub record FindsSame (name : List ℕ) (all rest : List ConstantParts) : Type 0 where
  pub found : (c : ConstantParts) → IsFirstNamed name rest c → IsFirstNamed name all c
  pub none : HasName name all → HasName name rest

pub finds_more : (name : List ℕ) (all : List ConstantParts) (i : ℕ) (c : ConstantParts) → slice_get all i ≡ Some c → (c.name ≡ name → ⊥) → FindsSame name all (drop i all) → FindsSame name all (drop (suc i) all)
finds_more name all i c at differs h =
    let e = drop_some all i c at in
    record {
      found = λ d g. h.found d (rw e (inr (differs, g)));
      none = λ g. other (rw e at (h.none g));
    }
  where
    other : (HasName name (c ∷ drop (suc i) all)) → HasName name (drop (suc i) all)
    other (inl same) = absurd (differs same)
    other (inr g) = g

pub finds_here : (name : List ℕ) (all : List ConstantParts) (i : ℕ) (c : ConstantParts) → slice_get all i ≡ Some c → c.name ≡ name → FindsSame name all (drop i all) → IsFirstNamed name all c
finds_here name all i c at same h = h.found c (rw (drop_some all i c at) (inl (same, refl)))

pub finds_none : (name : List ℕ) (all : List ConstantParts) (i : ℕ) → slice_get all i ≡ None → FindsSame name all (drop i all) → HasName name all → ⊥
finds_none name all i at h g = rw (drop_none all i at) at (h.none g)

pub nil_of : (xs : List ℕ) → length xs ≡ 0 → xs ≡ []
nil_of [] e = refl
nil_of (x ∷ xs) e = absurd (omega (arith, e))

-- ---- the lines of the first constants in a form
pub lines_more : (form : Form) (all : List ConstantParts) (i : ℕ) (c : ConstantParts) (start old new : List ℕ) → slice_get all i ≡ Some c → start ++ form_lines form all ≡ old ++ form_lines form (drop i all) → new ≡ old ++ form_line form c → start ++ form_lines form all ≡ new ++ form_lines form (drop (suc i) all)
lines_more form all i c start old new at before is =
    before ∙ (ap (λ t. old ++ form_lines form t) (drop_some all i c at) ∙ (sym (append_assoc old (form_line form c) (form_lines form (drop (suc i) all))) ∙ ap (λ t. t ++ form_lines form (drop (suc i) all)) (sym is)))

pub lines_all : (form : Form) (all : List ConstantParts) (i : ℕ) (start text : List ℕ) → slice_get all i ≡ None → start ++ form_lines form all ≡ text ++ form_lines form (drop i all) → text ≡ start ++ form_lines form all
lines_all form all i start text at before = sym (before ∙ (ap (λ t. text ++ form_lines form t) (drop_none all i at) ∙ append-nil text))
