-- A line has one name, and a name has one first line.
use Rattle.std.proofs.Common.{◌≡◌, ℕ, ◌+◌, List, [], ◌∷◌, sym, ◌∙◌, subst, inl, inr}
use Rattle.fixed_respell.specs.LineWords.{space}
use Rattle.fixed_respell.specs.Lemmas.SplitLemmas.{split_is_one}
use Rattle.fixed_constants.specs.Constants.{ConstantParts, NamedFrom, Names, Spells}

pub names_one : (line a b : List ℕ) → Names line a → Names line b → a ≡ b
names_one line a b x y = (split_is_one space line a x.rest b y.rest x.split y.split).before

pub spelled_name : (line : List ℕ) (c : ConstantParts) → Spells line c → Names line c.name
spelled_name line c s =
    let P : List ℕ → Type 0 = λ n. Names line n in
    subst P s.name (record {
      spoken = s.fields.spoken;
      rest = _;
      split = record { split = s.fields.has.text; first = s.fields.has.unspaced.0 };
    })

pub named_one : (n : ℕ) (before : List (List ℕ)) (name : List ℕ) (p q : ℕ) → NamedFrom n before name p
    → NamedFrom n before name q → p ≡ q
named_one n [] name p q a b = absurd a
named_one n (l ∷ ls) name p q (inl a) (inl b) = a.1 ∙ sym b.1
named_one n (l ∷ ls) name p q (inl a) (inr b) = absurd (b.0 a.0)
named_one n (l ∷ ls) name p q (inr a) (inl b) = absurd (a.0 b.0)
named_one n (l ∷ ls) name p q (inr a) (inr b) = named_one (n + 1) ls name p q a.1 b.1
