-- The statements of this crate's laws.
use Rattle.std.specs.Prelude.{◌≡◌, ◌↔◌, ℕ, false, List, String, All}
use Rattle.std.specs.Cmp.{IsTotalOrder}
use Rattle.std.specs.declared.alloc.Global.{Global}
use Rattle.std.specs.declared.cmp.Ordering.TheVariants.{Less, Equal}
use Rattle.fixed_bits.specs.Formats.{FormatParts}
use Rattle.fixed_bits.specs.Order.{IsBefore}
use Rattle.fixed_convert.specs.Order.{order_of}
use Rattle.fixed_write.specs.declared.style.Style.{Style}
use Rattle.line_engine.specs.AnswerText.{AnswerText}
use Rattle.fixed_columns.specs.Answer.{IsWholeAnswer, decimal_style}
use Rattle.fixed_columns.specs.Cells.{CellParts, HoldsAsOften, IsCell, IsInOrder, cell_order, format_order}
use Rattle.fixed_columns.specs.ColumnText.{IsColumnText}
use Rattle.fixed_columns.specs.Program.{AsksWithin}
use Rattle.fixed_columns.specs.Rows.{IsCellsOf, IsFaultOf}
use Rattle.fixed_columns.specs.declared.fault.CellFault.{CellFault}

-- ---- the order of cells
-- any two cells compare, the order is transitive, and it is reversed when the sides are swapped
abbrev pub OrderIsTotal : Type 0
OrderIsTotal = IsTotalOrder cell_order

-- cells that the order does not tell apart have one format and the same bits
abbrev pub EqualIsSame : Type 0
EqualIsSame = (a b : CellParts) → (cell_order a b ≡ Equal) ↔ (a ≡ b)

-- cells of different values are ordered as the values are
abbrev pub OrderIsOfValues : Type 0
OrderIsOfValues = (a b : CellParts) → ¬ (order_of a.bits a.format.frac b.bits b.format.frac ≡ Equal)
    → cell_order a b ≡ order_of a.bits a.format.frac b.bits b.format.frac

-- cells of equal values are ordered as their formats are
abbrev pub TiesAreOfFormats : Type 0
TiesAreOfFormats = (a b : CellParts) → order_of a.bits a.format.frac b.bits b.format.frac ≡ Equal
    → cell_order a b ≡ format_order a.format b.format

-- formats are ordered as the choice of the least format of a list orders them
abbrev pub FormatOrderIsBefore : Type 0
FormatOrderIsBefore = (f g : FormatParts) → (format_order f g ≡ Less) ↔ IsBefore f g

-- a list in order is determined by how often it contains each cell
abbrev pub SortedIsTheOne : Type 0
SortedIsTheOne = (a b : List CellParts) → HoldsAsOften a b → IsInOrder a → IsInOrder b → a ≡ b

-- ---- texts
-- a text has at most one list of cells
abbrev pub CellsAreTheOnes : Type 0
CellsAreTheOnes = (text : List ℕ) (a b : List CellParts) → IsCellsOf text a → IsCellsOf text b → a ≡ b

-- a text has at most one first fault, on one line
abbrev pub FaultIsTheOne : Type 0
FaultIsTheOne = (text : List ℕ) (p q : ℕ) (f g : CellFault) → IsFaultOf text p f → IsFaultOf text q g
    → (p ≡ q) × (f ≡ g)

-- no text has both cells and a fault, so a text is refused exactly if it has a fault
abbrev pub NeverBoth : Type 0
NeverBoth = (text : List ℕ) (cells : List CellParts) (p : ℕ) (f : CellFault) → IsCellsOf text cells
    → ¬ IsFaultOf text p f

-- cells have one text in a style
abbrev pub ColumnIsTheOne : Type 0
ColumnIsTheOne = (style : Style) (cells : List CellParts) (a b : List ℕ) → IsColumnText style cells a
    → IsColumnText style cells b → a ≡ b

-- in decimal, with leading spaces up to any width, that text reads back as the cells
abbrev pub ColumnReadsBack : Type 0
ColumnReadsBack = (width : ℕ) (cells : List CellParts) (text : List ℕ) → All IsCell cells
    → IsColumnText (decimal_style width) cells text → IsCellsOf text cells

-- ---- the answer
-- an input has one answer
abbrev pub AnswerIsTheOne : Type 0
AnswerIsTheOne = (input : List ℕ) (a b : AnswerText) → IsWholeAnswer input a → IsWholeAnswer input b → a ≡ b

-- arguments request one limit
abbrev pub AskedLimitIsTheOne : Type 0
AskedLimitIsTheOne = (args : List (String Global)) (m n : ℕ) → AsksWithin args m → AsksWithin args n → m ≡ n

-- the output reads back as the cells of the input in order, each as often as in the input
pub record ReadsBackInOrder (input output : List ℕ) : Type 0 where
  pub cells : List CellParts
  pub are : IsCellsOf input cells
  pub sorted : List CellParts
  pub read : IsCellsOf output sorted
  pub same : HoldsAsOften cells sorted
  pub order : IsInOrder sorted

abbrev pub AnswerReadsBack : Type 0
AnswerReadsBack = (input : List ℕ) (answer : AnswerText) → IsWholeAnswer input answer → answer.fault ≡ false
    → ReadsBackInOrder input answer.text
