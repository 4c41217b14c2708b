-- The text of cells, a line for each.
use Rattle.std.specs.Prelude.{◌≡◌, ℕ, List, [], ◌∷◌, ◌++◌}
use Rattle.fixed_respell.specs.LineWords.{space}
use Rattle.fixed_respell.specs.Words.{format_text}
use Rattle.fixed_write.specs.Styled.{IsStyledText}
use Rattle.fixed_write.specs.declared.style.Style.{Style}
use Rattle.fixed_columns.specs.Cells.{CellParts}

-- the value of a cell in a style, a space, and its format
pub record IsRow (style : Style) (c : CellParts) (row : List ℕ) : Type 0 where
  pub number : List ℕ
  pub styled : IsStyledText style c.bits c.format.frac number
  pub text : row ≡ number ++ space ∷ format_text c.format

-- such a row and a newline were appended
pub record AppendsRow (style : Style) (c : CellParts) (old new : List ℕ) : Type 0 where
  pub row : List ℕ
  pub is : IsRow style c row
  pub appended : new ≡ old ++ (row ++ 10 ∷ [])

-- the rows of all cells in order, each with a newline
abbrev pub IsColumnText : Style → List CellParts → List ℕ → Type 0
IsColumnText style [] text = text ≡ []
IsColumnText style (c ∷ cells) text = (row : List ℕ) × (rest : List ℕ) × IsRow style c row × (text ≡ row ++ 10 ∷ rest)
    × IsColumnText style cells rest
