-- Bytes split at the first byte with a given value.
use Rattle.std.specs.Prelude.{◌≡◌, ℕ, ◌==◌, List, ◌∷◌, ◌++◌}
use Rattle.std.specs.List.{count_by}

-- the number of bytes that are b
abbrev pub count_of : ℕ → List ℕ → ℕ
count_of b bytes = count_by (λ x. x == b) bytes

-- the first b of the bytes comes after `before`, and is followed by `after`
pub record IsSplit (b : ℕ) (bytes before after : List ℕ) : Type 0 where
  pub split : bytes ≡ before ++ b ∷ after
  pub first : count_of b before ≡ 0
