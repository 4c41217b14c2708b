-- A line has its words in one way, and at most one first fault.
use Rattle.std.proofs.Common.{◌≡◌, ℕ, ◌+◌, ◌<◌, ◌≤◌, List, [], ◌∷◌, length, get_or, refl, sym, ap, ◌∙◌, subst}
use Rattle.std.proofs.Common.{arith, inl, inr}
use Rattle.std.proofs.lemmas.Bool.{cases_lt}
use Rattle.fixed_respell.specs.LineWords.{HasWords, HaveNoSpace, HasBadWord, IsFirst, space, spaced}
use Rattle.fixed_respell.specs.Split.{count_of, IsSplit}
use Rattle.fixed_respell.specs.Lemmas.SplitLemmas.{same_split, count_one}

-- two ways to have words are the same
pub record AreSameWords (v w : List (List ℕ)) (rest rest' : List ℕ) : Type 0 where
  pub words : v ≡ w
  pub rests : rest ≡ rest'

spaced_one : (v w : List (List ℕ)) (r s : List ℕ) → spaced v r ≡ spaced w s → HaveNoSpace v → HaveNoSpace w
    → length v ≡ length w → AreSameWords v w r s
spaced_one [] [] r s e a b n = record { words = refl; rests = e }
spaced_one [] (y ∷ w) r s e a b n = absurd (omega (arith, n))
spaced_one (x ∷ v) [] r s e a b n = absurd (omega (arith, n))
spaced_one (x ∷ v) (y ∷ w) r s e a b n =
    let one = same_split space x y (spaced v r) (spaced w s) e a.0 b.0 in
    let more = spaced_one v w r s one.after a.1 b.1 (omega (arith, n)) in
    let head : x ≡ y = one.before in
    let tail : v ≡ w = more.words in
    record { words = cc; rests = more.rests }

pub words_one : (line : List ℕ) (v w : List (List ℕ)) (r s : List ℕ) → HasWords line v r → HasWords line w s
    → length v ≡ length w → AreSameWords v w r s
words_one line v w r s a b n = spaced_one v w r s (sym a.text ∙ b.text) a.unspaced b.unspaced n

-- each word is followed by a space of the line
spaces : (words : List (List ℕ)) (rest : List ℕ) → length words ≤ count_of space (spaced words rest)
spaces [] rest = omega arith
spaces (word ∷ words) rest = omega (arith, count_one space word (spaced words rest), spaces words rest)

pub enough_spaces : (line : List ℕ) (words : List (List ℕ)) (rest : List ℕ) → HasWords line words rest
    → length words ≤ count_of space line
enough_spaces line words rest has = omega (arith, ap (count_of space) has.text, spaces words rest)

-- a split takes one space
pub one_fewer : (bytes before after : List ℕ) → IsSplit space bytes before after
    → count_of space bytes ≡ 1 + count_of space after
one_fewer bytes before after split = omega (
  arith,
  ap (count_of space) split.split,
  count_one space before after,
  split.first,
)

-- faults that a line with these words does not have
pub not_missing : (count : ℕ) (line : List ℕ) (words : List (List ℕ)) (rest : List ℕ) → HasWords line words rest
    → length words ≡ count → count_of space line < count → ⊥
not_missing count line words rest has n few = omega (arith, enough_spaces line words rest has)

pub not_bad : (count place : ℕ) (IsOfKind : List ℕ → Type 0) (line : List ℕ) (words : List (List ℕ)) (rest : List ℕ)
    → HasWords line words rest → length words ≡ count → IsOfKind (get_or words place [])
    → HasBadWord count place IsOfKind line → ⊥
not_bad count place IsOfKind line words rest has n is bad =
    let same = words_one line words bad.words rest bad.rest has bad.has (n ∙ sym bad.count_is) in
    bad.bad (subst (λ ws. IsOfKind (get_or ws place [])) same.words is)

-- there is at most one first fault if ranks tell faults apart
abbrev pub RanksTellApart : (Fault : Type 0) (rank : Fault → ℕ) → Type 0
RanksTellApart Fault rank = (f g : Fault) → rank f ≡ rank g → f ≡ g

pub first_one : (Fault : Type 0) (rank : Fault → ℕ) (Has : Fault → Type 0) → RanksTellApart Fault rank → (f g : Fault)
    → IsFirst Fault rank Has f → IsFirst Fault rank Has g → f ≡ g
first_one Fault rank Has apart f g a b =
    elim (cases_lt (rank f) (rank g)) [
      | inl before ↦ absurd (b.first f before a.has)
      | inr later ↦ elim (cases_lt (rank g) (rank f)) [
        | inl before ↦ absurd (a.first g before b.has)
        | inr same ↦ apart f g (omega arith)
      ]
    ]

-- no fault has a rank below n
abbrev pub NoneBefore : (Fault : Type 0) (rank : Fault → ℕ) (Has : Fault → Type 0) → ℕ → Type 0
NoneBefore Fault rank Has n = (f : Fault) → rank f < n → Has f → ⊥

pub none_at_first : (Fault : Type 0) (rank : Fault → ℕ) (Has : Fault → Type 0) → NoneBefore Fault rank Has 0
none_at_first Fault rank Has f below has = omega arith

pub none_next : (Fault : Type 0) (rank : Fault → ℕ) (Has : Fault → Type 0) → RanksTellApart Fault rank
    → (g : Fault) (n : ℕ) → rank g ≡ n → (Has g → ⊥) → NoneBefore Fault rank Has n → NoneBefore Fault rank Has (n + 1)
none_next Fault rank Has apart g n is none before f below has =
    elim (cases_lt (rank f) n) [
      | inl earlier ↦ before f earlier has
      | inr later ↦ none (subst Has (apart f g (omega arith)) has)
    ]

pub first_is : (Fault : Type 0) (rank : Fault → ℕ) (Has : Fault → Type 0) (f : Fault) (n : ℕ) → rank f ≡ n → Has f
    → NoneBefore Fault rank Has n → IsFirst Fault rank Has f
first_is Fault rank Has f n is has before = record {
  has = has;
  first = λ other below. before other (omega (arith, below, is));
}
