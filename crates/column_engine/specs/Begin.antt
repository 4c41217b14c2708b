-- The start of a text.
use Rattle.std.specs.Prelude.{◌≡◌, ◌<◌, ◌++◌, ℕ, List, [], ◌∷◌, Option, Some, None, take}
use Rattle.std.specs.Io.KnownBytes.{IsAtEnd}
use Rattle.csv.specs.Reading.{strip_bom}
use Rattle.column_engine.specs.Rows.{byte_order_mark}
use Rattle.column_engine.specs.declared.begin.Start.{Start}
use Rattle.column_engine.specs.declared.begin.Start.TheVariants.{Ended, Marked, Other}

-- the byte that a read gave, if any
abbrev pub given : Option ℕ → List ℕ
given None = []
given (Some byte) = byte ∷ []

-- a proper prefix of a byte order mark
abbrev pub IsPartOfMark : List ℕ → Type 0
IsPartOfMark bytes = (k : ℕ) × (k < 3) × (bytes ≡ take k byte_order_mark)

-- what each kind of start says of the first bytes of a text
abbrev pub Begins : Start → List ℕ → Option (List ℕ) → Type 0
Begins Marked bytes left = bytes ≡ byte_order_mark
Begins Ended bytes left = IsPartOfMark bytes × IsAtEnd left
Begins Other bytes left = (more : List ℕ) → strip_bom (bytes ++ more) ≡ bytes ++ more
