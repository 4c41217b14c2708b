-- What is shown of a text, and the line of a refused line, are the only ones.
use Rattle.std.proofs.Common.{◌≡◌, ◌⊎◌, ℕ, zero, suc, List, [], ◌∷◌, ◌++◌, Option, None, Some, refl, sym, ap, subst, ◌∙◌, inl, inr, take, drop, max}
use Rattle.std.specs.Prelude.{decimal}
use Rattle.line_rejects.specs.Laws.{RejectLineIsTheOne}
use Rattle.line_rejects.specs.Rejects.{IsNameField, IsRejectLine, place_field}
use Rattle.line_rejects.specs.Shown.{IsCharacter, IsFirstShown, IsShown, IsWidth, ShownWithin, lead_width, shown}

width_one : (bytes : List ℕ) (v w : ℕ) → IsWidth bytes v → IsWidth bytes w → v ≡ w
width_one bytes v w (inl p) (inl q) = p.width_is ∙ sym q.width_is
width_one bytes v w (inl p) (inr q) = absurd (q.1 (subst (IsCharacter bytes) p.width_is p))
width_one bytes v w (inr p) (inl q) = absurd (p.1 (subst (IsCharacter bytes) q.width_is q))
width_one bytes v w (inr p) (inr q) = p.0 ∙ sym q.0

first_text : (bytes t r s q : List ℕ) → IsFirstShown bytes t r → IsFirstShown bytes s q → t ≡ s
first_text bytes t r s q one two =
    one.text_is ∙ ap (λ w. shown w (take (max w 1) bytes)) (width_one bytes one.width two.width one.is two.is) ∙ sym two.text_is

first_rest : (bytes t r s q : List ℕ) → IsFirstShown bytes t r → IsFirstShown bytes s q → r ≡ q
first_rest bytes t r s q one two =
    one.rest_is ∙ ap (λ w. drop (max w 1) bytes) (width_one bytes one.width two.width one.is two.is) ∙ sym two.rest_is

within_one : (m n : ℕ) (bytes a b : List ℕ) → ShownWithin m bytes a → ShownWithin n bytes b → a ≡ b
unfolding ShownWithin
within_one m n [] a b p q = p ∙ sym q
within_one zero n (byte ∷ bytes) a b p q = absurd p
within_one (suc m) zero (byte ∷ bytes) a b p q = absurd q
within_one (suc m) (suc n) (byte ∷ bytes) a b (t, r, more, one, p, is) (s, q, most, two, o, are) =
    let same = first_text (byte ∷ bytes) t r s q one two in
    let rest = within_one m n r more most p (subst (λ l. ShownWithin n l most) (sym (first_rest (byte ∷ bytes) t r s q one two)) o) in
    is ∙ ap (λ l. l ++ more) same ∙ ap (λ l. s ++ l) rest ∙ sym are

pub shown_one : (bytes a b : List ℕ) → IsShown bytes a → IsShown bytes b → a ≡ b
shown_one bytes a b p q = within_one p.0 q.0 bytes a b p.1 q.1

name_one : (name : Option (List ℕ)) (a b : List ℕ) → IsNameField name a → IsNameField name b → a ≡ b
name_one None a b p q = p ∙ sym q
name_one (Some name) a b p q = p.2 ∙ ap (λ l. l ++ 9 ∷ []) (shown_one name p.0 q.0 p.1 q.1) ∙ sym q.2

pub reject_line_one : RejectLineIsTheOne
reject_line_one name number place text cause a b p q =
    let line : List ℕ → List ℕ → List ℕ → List ℕ = λ first text told. first ++ (decimal number ++ 9 ∷ []) ++ place_field place ++ (text ++ 9 ∷ []) ++ (told ++ 10 ∷ []) in
    p.line_is ∙ ap (λ l. line l p.shown p.told) (name_one name p.first q.first p.is_name q.is_name)
    ∙ ap (λ l. line q.first l p.told) (shown_one text p.shown q.shown p.is_text q.is_text)
    ∙ ap (λ l. line q.first q.shown l) (shown_one cause p.told q.told p.is_cause q.is_cause) ∙ sym q.line_is

-- ---- a text that is shown character by character
pub shows_none : ShownWithin zero [] []
unfolding ShownWithin
shows_none = refl

pub shows_more : (most : ℕ) (bytes first rest more : List ℕ) → IsFirstShown bytes first rest → ShownWithin most rest more → (bytes ≡ [] → ⊥) → ShownWithin (suc most) bytes (first ++ more)
unfolding ShownWithin
shows_more most [] first rest more is after some = absurd (some refl)
shows_more most (byte ∷ bytes) first rest more is after some = (first, rest, more, is, after, refl)
