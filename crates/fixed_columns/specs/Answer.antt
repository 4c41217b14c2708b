-- The answer to an input.
use Rattle.std.specs.Prelude.{◌≡◌, ◌⊎◌, ℕ, List, [], ◌∷◌, ◌++◌, None, true, false, codes, decimal}
use Rattle.fixed_numeral.specs.Messages.{message_of}
use Rattle.fixed_write.specs.declared.style.Notation.TheVariants.{Dec}
use Rattle.fixed_write.specs.declared.style.Align.TheVariants.{Right}
use Rattle.fixed_write.specs.declared.style.Style.{Style}
use Rattle.line_engine.specs.AnswerText.{AnswerText}
use Rattle.fixed_columns.specs.Cells.{CellParts, HoldsAsOften, IsInOrder}
use Rattle.fixed_columns.specs.ColumnText.{IsColumnText}
use Rattle.fixed_columns.specs.Rows.{IsCellsOf, IsFaultOf}
use Rattle.fixed_columns.specs.declared.fault.CellFault.{CellFault}
use Rattle.fixed_columns.specs.declared.fault.CellFault.TheVariants.{MissingField, BadFormat, BadNumeral}

-- the message of a fault
abbrev pub fault_message : CellFault → List ℕ
fault_message MissingField = codes "missing field"
fault_message BadFormat = codes "bad format"
fault_message (BadNumeral kind) = message_of kind

-- the line written for a fault on line `p`
abbrev pub fault_line : ℕ → CellFault → List ℕ
fault_line p fault = codes "error: line " ++ (decimal p ++ (codes ": " ++ (fault_message fault ++ 10 ∷ [])))

-- the default text of a number, with leading spaces up to a width
abbrev pub decimal_style : ℕ → Style
decimal_style width = record {
  notation = Dec;
  precision = None;
  width = width;
  fill = 32;
  align = Right;
  plus = false;
  prefix = false;
  zero_pad = false;
}

abbrev pub column_style : Style
column_style = decimal_style 24

-- the column of the input's cells in order, each as often as in the input
pub record IsColumnAnswer (input : List ℕ) (answer : AnswerText) : Type 0 where
  pub cells : List CellParts
  pub are : IsCellsOf input cells
  pub sorted : List CellParts
  pub same : HoldsAsOften cells sorted
  pub order : IsInOrder sorted
  pub text : IsColumnText column_style sorted answer.text
  pub fault : answer.fault ≡ false

-- the input's first fault
pub record IsFaultAnswer (input : List ℕ) (answer : AnswerText) : Type 0 where
  pub line : ℕ
  pub why : CellFault
  pub is : IsFaultOf input line why
  pub text : answer.text ≡ fault_line line why
  pub fault : answer.fault ≡ true

-- the answer to an input
abbrev pub IsWholeAnswer : List ℕ → AnswerText → Type 0
IsWholeAnswer input answer = IsColumnAnswer input answer ⊎ IsFaultAnswer input answer
