-- Tests of names, each equivalent to its definition.
use Rattle.std.proofs.Common.{◌≡◌, ◌↔◌, ◌∙◌, ℕ, List, [], ◌∷◌, ◌++◌, Bool, true, false, IsTrue, Option, Some, None, refl, sym, subst, arith}
use Rattle.std.specs.Prelude.{is_some, not}
use Rattle.std.proofs.lemmas.Bool.{false≢true}
use Rattle.memchr.specs.Find.{FindsNeedle, OccursAt}
use Rattle.fixed_arrays.specs.Names.{AreApart, HasTwoUnderscores, two_underscores}

pub and_not : (a b : Bool) (P Q : Type 0) → (IsTrue a ↔ P) → a ≡ true → (IsTrue b ↔ Q) → IsTrue (not b) ↔ (P × (Q → ⊥))
and_not a true P Q p t q = (λ h. absurd (false≢true h), λ h. absurd (h.1 (q.0 refl)))
and_not a false P Q p t q = (λ _. (p.0 t, λ h. false≢true (q.1 h)), λ _. refl)

pub and_also : (a b : Bool) (P Q : Type 0) → (IsTrue a ↔ P) → a ≡ true → (IsTrue b ↔ Q) → IsTrue b ↔ (P × Q)
and_also a b P Q p t q = (λ h. (p.0 t, q.0 h), λ h. q.1 h.1)

pub neither : (a : Bool) (P Q : Type 0) → (IsTrue a ↔ P) → a ≡ false → IsTrue a ↔ (P × Q)
neither a P Q p f = (λ h. absurd (false≢true (sym f ∙ h)), λ h. absurd (false≢true (sym f ∙ p.1 h.0)))

pub apart_by : (name hay : List ℕ) (r : Option ℕ) (b : Bool) → hay ≡ 95 ∷ (name ++ 95 ∷ []) → FindsNeedle hay two_underscores 0 r → is_some r ≡ not b → IsTrue b ↔ AreApart name
apart_by name hay (Some k) true same found is = absurd (false≢true (sym is))
apart_by name hay (Some k) false same found is = (λ h. absurd (false≢true h), λ apart. let O : List ℕ → Type 0 = λ n. OccursAt n two_underscores k in absurd (apart k (subst O same found.1)))
apart_by name hay None false same found is = absurd (false≢true is)
apart_by name hay None true same found is = (λ _. never, λ _. refl)
  where
    never : AreApart name
    never place h = let O : List ℕ → Type 0 = λ n. OccursAt n two_underscores place in let at = subst O (sym same) h in let fits = at.fits in found place (omega arith) (omega arith) at

pub has_two_by : (name : List ℕ) (r : Option ℕ) (b : Bool) → FindsNeedle name two_underscores 0 r → b ≡ is_some r → IsTrue b ↔ HasTwoUnderscores name
has_two_by name (Some k) b found is = (λ _. (k, found.1), λ _. is)
has_two_by name None b found is = (λ holds. absurd (false≢true (sym is ∙ holds)), λ h. absurd (never h))
  where
    never : HasTwoUnderscores name → ⊥
    never h = let at = h.1 in let fits = at.fits in found h.0 (omega arith) (omega arith) at
