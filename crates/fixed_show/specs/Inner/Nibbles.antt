-- The digits of a word in radix 16.
use Rattle.std.specs.Prelude.{ℕ, ◌/◌, ◌%◌, ◌^◌, List, [], ◌∷◌}

-- the sixteen digits of n, the highest first
abbrev pub nibbles_of : ℕ → List ℕ
nibbles_of n = n / 16 ^ 15 % 16 ∷ n / 16 ^ 14 % 16 ∷ n / 16 ^ 13 % 16 ∷ n / 16 ^ 12 % 16 ∷ n / 16 ^ 11 % 16
    ∷ n / 16 ^ 10 % 16 ∷ n / 16 ^ 9 % 16 ∷ n / 16 ^ 8 % 16 ∷ n / 16 ^ 7 % 16 ∷ n / 16 ^ 6 % 16
    ∷ n / 16 ^ 5 % 16 ∷ n / 16 ^ 4 % 16 ∷ n / 16 ^ 3 % 16 ∷ n / 16 ^ 2 % 16 ∷ n / 16 % 16 ∷ n % 16 ∷ []
