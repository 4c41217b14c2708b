-- What the vectors of digits hold.
use Rattle.std.specs.Prelude.{ℕ, ◌/◌, ◌%◌, ◌^◌, ◌==◌, Bool, not, List, [], ◌∷◌}
use Rattle.fixed_write.specs.Texts.{zero_digit}

-- the sixteen digits of n, as eight pairs
abbrev pub pairs_of : ℕ → List ℕ
pairs_of n = n / 10 ^ 14 ∷ n / 10 ^ 12 % 100 ∷ n / 10 ^ 10 % 100 ∷ n / 10 ^ 8 % 100 ∷ n / 10 ^ 6 % 100 ∷ n / 10000 % 100
    ∷ n / 100 % 100 ∷ n % 100 ∷ []

-- both digits of each pair
abbrev pub digits_of_pairs : List ℕ → List ℕ
digits_of_pairs [] = []
digits_of_pairs (p ∷ ps) = p / 10 ∷ p % 10 ∷ digits_of_pairs ps

-- whether a character is not the digit zero
abbrev pub is_other_digit : ℕ → Bool
is_other_digit c = not (c == zero_digit)
