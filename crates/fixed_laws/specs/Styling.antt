-- Each value has exactly one text in a style.
use Rattle.std.specs.Prelude.{◌≡◌, ℕ, List, ℤ}
use Rattle.fixed_write.specs.declared.style.Style.{Style}
use Rattle.fixed_write.specs.Styled.{IsStyledText}

abbrev pub StyledTextExists : Type 0
StyledTextExists = (s : Style) (c : ℤ) (g : ℕ) → (text : List ℕ) × IsStyledText s c g text

abbrev pub StyledTextIsTheOne : Type 0
StyledTextIsTheOne = (s : Style) (c : ℤ) (g : ℕ) (a b : List ℕ) → IsStyledText s c g a → IsStyledText s c g b → a ≡ b
