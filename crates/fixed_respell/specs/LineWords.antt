-- The words of a line and the first of several faults, which all languages of lines share.
use Rattle.std.specs.Prelude.{◌≡◌, ◌<◌, ℕ, List, [], ◌∷◌, ◌++◌, length, get_or}
use Rattle.fixed_respell.specs.Split.{count_of}

-- ' '
abbrev pub space : ℕ
space = 32

-- the greatest length of a line, in bytes
abbrev pub longest_line : ℕ
longest_line = 1048576

-- words, each followed by a space, and then the rest
abbrev pub spaced : List (List ℕ) → List ℕ → List ℕ
spaced [] rest = rest
spaced (word ∷ words) rest = word ++ space ∷ spaced words rest

-- no word has a space
abbrev pub HaveNoSpace : List (List ℕ) → Type 0
HaveNoSpace [] = Unit {0}
HaveNoSpace (word ∷ words) = (count_of space word ≡ 0) × HaveNoSpace words

-- the line begins with these words, and the rest is all that follows the space after the last of them
pub record HasWords (line : List ℕ) (words : List (List ℕ)) (rest : List ℕ) : Type 0 where
  pub text : line ≡ spaced words rest
  pub unspaced : HaveNoSpace words

-- the line begins with `count` words, and the word at index `place` is not of a kind
pub record HasBadWord (count place : ℕ) (IsOfKind : List ℕ → Type 0) (line : List ℕ) : Type 0 where
  pub words : List (List ℕ)
  pub rest : List ℕ
  pub has : HasWords line words rest
  pub count_is : length words ≡ count
  pub bad : ¬ IsOfKind (get_or words place [])

-- the fault is there, and no fault of a lower rank is
pub record IsFirst (Fault : Type 0) (rank : Fault → ℕ) (Has : Fault → Type 0) (fault : Fault) : Type 0 where
  pub has : Has fault
  pub first : (other : Fault) → rank other < rank fault → ¬ Has other
