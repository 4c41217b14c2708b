-- The cells of a text, or its first fault.
use Rattle.std.specs.Prelude.{◌≡◌, ◌⊎◌, ◌+◌, ◌==◌, ℕ, ℤ, List, [], ◌∷◌, if◌then◌else◌}
use Rattle.fixed_bits.specs.Formats.{FormatParts}
use Rattle.fixed_bits.specs.Ranges.{IsInRange}
use Rattle.fixed_bits.specs.declared.mode.ReadMode.TheVariants.{NearestEven}
use Rattle.fixed_numeral.specs.Cause.{HasCause}
use Rattle.fixed_numeral.specs.Numeral.{Parts, HasNumeral}
use Rattle.fixed_numeral.specs.declared.error.ParseErrorKind.{ParseErrorKind}
use Rattle.fixed_numeral.specs.declared.error.ParseErrorKind.TheVariants.{Overflow}
use Rattle.fixed_numeral.specs.declared.radix.Radix.TheVariants.{Dec}
use Rattle.fixed_read.specs.Reading.{IsReadNumber, IsReadOutOfRange}
use Rattle.fixed_respell.specs.LineWords.{space}
use Rattle.fixed_respell.specs.Split.{IsSplit, count_of}
use Rattle.fixed_respell.specs.Words.{IsFormatWord}
use Rattle.line_engine.specs.Lines.{lines}
use Rattle.fixed_columns.specs.Cells.{CellParts}
use Rattle.fixed_columns.specs.declared.fault.CellFault.{CellFault}
use Rattle.fixed_columns.specs.declared.fault.CellFault.TheVariants.{MissingField, BadFormat, BadNumeral}
use Rattle.fixed_columns.specs.declared.fault.CellsError.{CellsError}
use Rattle.fixed_columns.specs.declared.fault.CellsError.TheVariants.{Refused, NoMemory}

-- ---- a line
-- a line from its first byte that is not a space
unfoldable pub after_spaces : List ℕ → List ℕ
after_spaces [] = []
after_spaces (b ∷ bytes) = if b == space then after_spaces bytes else b ∷ bytes

-- the line, without its leading spaces, is split at its first space
abbrev pub HasFields : List ℕ → List ℕ → List ℕ → Type 0
HasFields line numeral word = IsSplit space (after_spaces line) numeral word

-- the decimal numeral is read as these bits of the format: the nearest number, ties to even, in range
pub record IsNumeralOf (f : FormatParts) (numeral : List ℕ) (bits : ℤ) : Type 0 where
  pub parts : Parts
  pub has : HasNumeral Dec numeral parts
  pub read : IsReadNumber NearestEven Dec parts f.frac bits
  pub in_range : IsInRange f.signed f.width bits

-- the bytes are refused as a numeral of the format, for this reason
abbrev pub IsRefusedNumeral : FormatParts → List ℕ → ParseErrorKind → Type 0
IsRefusedNumeral f bytes kind = HasCause Dec bytes kind
    ⊎ ((kind ≡ Overflow) × IsReadOutOfRange NearestEven Dec (HasNumeral Dec bytes) f.frac f.signed f.width)

-- the line spells the cell
pub record Spells (line : List ℕ) (c : CellParts) : Type 0 where
  pub numeral : List ℕ
  pub word : List ℕ
  pub fields : HasFields line numeral word
  pub format : IsFormatWord word c.format
  pub bits : IsNumeralOf c.format numeral c.bits

-- ---- the fault of a line
-- the word after the numeral does not name a format
pub record HasBadFormat (line : List ℕ) : Type 0 where
  pub numeral : List ℕ
  pub word : List ℕ
  pub fields : HasFields line numeral word
  pub bad : (f : FormatParts) → ¬ IsFormatWord word f

-- the numeral is refused for the format, for this reason
pub record HasBadNumeral (line : List ℕ) (kind : ParseErrorKind) : Type 0 where
  pub numeral : List ℕ
  pub word : List ℕ
  pub fields : HasFields line numeral word
  pub format : FormatParts
  pub named : IsFormatWord word format
  pub refused : IsRefusedNumeral format numeral kind

-- the line has this fault, and none that is checked earlier
abbrev pub HasFault : List ℕ → CellFault → Type 0
HasFault line MissingField = count_of space (after_spaces line) ≡ 0
HasFault line BadFormat = HasBadFormat line
HasFault line (BadNumeral kind) = HasBadNumeral line kind

-- ---- a text
-- the lines spell the cells, one for each and in order
abbrev pub SpellAll : List (List ℕ) → List CellParts → Type 0
SpellAll [] cells = cells ≡ []
SpellAll (line ∷ lines) cells = (c : CellParts) × (more : List CellParts) × Spells line c × (cells ≡ c ∷ more)
    × SpellAll lines more

-- the first fault of the lines, numbered from `n` on, is this one, on line `p`
abbrev pub FailAt : ℕ → List (List ℕ) → ℕ → CellFault → Type 0
FailAt n [] p fault = ⊥
FailAt n (line ∷ lines) p fault = (HasFault line fault × (p ≡ n))
    ⊎ (((c : CellParts) × Spells line c) × FailAt (n + 1) lines p fault)

-- the cells of a text
abbrev pub IsCellsOf : List ℕ → List CellParts → Type 0
IsCellsOf text cells = SpellAll (lines text) cells

-- the first line of a text, from 1, with a fault, and the first fault of that line
abbrev pub IsFaultOf : List ℕ → ℕ → CellFault → Type 0
IsFaultOf text p fault = FailAt 1 (lines text) p fault

-- the meaning of an error of a text
abbrev pub IsErrorOf : List ℕ → CellsError → Type 0
IsErrorOf text (Refused p fault) = IsFaultOf text p fault
IsErrorOf text NoMemory = Unit {0}
