-- Digits without zeros at an end.
use Rattle.std.specs.Prelude.{◌≡◌, ℕ, List, [], ◌∷◌, ◌++◌}

abbrev pub NoLeadingZero : List ℕ → Type 0
NoLeadingZero ds = (rest : List ℕ) → ds ≡ 0 ∷ rest → ⊥

abbrev pub NoTrailingZero : List ℕ → Type 0
NoTrailingZero ds = (rest : List ℕ) → ds ≡ rest ++ 0 ∷ [] → ⊥
