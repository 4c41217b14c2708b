-- The names of decimal formats.
use Rattle.std.specs.Prelude.{◌≡◌, ◌≤◌, ℕ, List, ◌∷◌, decimal}
use Rattle.fixed_respell.specs.FormatNames.{IsLetter}

-- `D` and the count of places
abbrev pub name_text : ℕ → List ℕ
name_text places = 68 ∷ decimal places

-- the same with `D` in either case, for at most 18 places
pub record IsDecimalName (word : List ℕ) (places : ℕ) : Type 0 where
  pub few : places ≤ 18
  pub letter : ℕ
  pub is_letter : IsLetter 68 letter
  pub text : word ≡ letter ∷ decimal places
