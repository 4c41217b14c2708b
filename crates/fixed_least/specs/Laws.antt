-- Statements of this crate's laws.
use Rattle.std.specs.Prelude.{◌≡◌, ◌↔◌, ◌++◌, ℕ, List, String, length}
use Rattle.std.specs.declared.alloc.Global.{Global}
use Rattle.fixed_bits.specs.Formats.{FormatParts, IsTypeFormat}
use Rattle.fixed_bits.specs.Order.{IsBefore, rank}
use Rattle.fixed_numeral.specs.declared.radix.Radix.{Radix}
use Rattle.line_engine.specs.AnswerText.{AnswerText}
use Rattle.fixed_least.specs.Holding.{AllHold, IsLeastFormat}
use Rattle.fixed_least.specs.Least.{IsLeast, IsLeastLine, IsNoNumeral, IsWholeAnswer}
use Rattle.fixed_least.specs.Program.{NamesRadix}
use Rattle.fixed_least.specs.declared.least.LeastFault.{LeastFault}

-- a format is the least that holds each line exactly if its rank is the count of places
abbrev pub LeastIsTheOne : Type 0
LeastIsTheOne = (r : Radix) (lines : List (List ℕ)) (places : List ℕ) → IsLeast r lines places → (f : FormatParts)
    → IsTypeFormat f.width f.frac
    → (rank f ≡ length places) ↔ IsLeastFormat r lines f

-- a list has at most one outcome: the places are determined
abbrev pub PlacesAreTheOnes : Type 0
PlacesAreTheOnes = (r : Radix) (lines : List (List ℕ)) (a b : List ℕ) → IsLeast r lines a → IsLeast r lines b → a ≡ b

-- a list with a line that is not a numeral has one fault
abbrev pub LeastFaultIsTheOne : Type 0
LeastFaultIsTheOne = (r : Radix) (lines : List (List ℕ)) (a b : LeastFault) → IsNoNumeral r lines a
    → IsNoNumeral r lines b → a ≡ b

-- each line about an outcome is determined
abbrev pub LeastLineIsTheOne : Type 0
LeastLineIsTheOne = (places : List ℕ) (i : ℕ) (a b : AnswerText) → IsLeastLine places i a → IsLeastLine places i b
    → a ≡ b

-- an input has at most one answer
abbrev pub AnswerIsTheOne : Type 0
AnswerIsTheOne = (r : Radix) (input : List ℕ) (a b : AnswerText) → IsWholeAnswer r input a → IsWholeAnswer r input b
    → a ≡ b

-- arguments name at most one radix
abbrev pub NamedRadixIsTheOne : Type 0
NamedRadixIsTheOne = (args : List (String Global)) (r s : Radix) → NamesRadix args r → NamesRadix args s → r ≡ s

-- the least format of a longer list does not come before that of the shorter, and a format that does not hold the
-- shorter does not hold the longer
abbrev pub LongerHasNoLesser : Type 0
LongerHasNoLesser = (r : Radix) (lines more : List (List ℕ))
    → ((f g : FormatParts) → IsLeastFormat r lines f → IsLeastFormat r (lines ++ more) g → ¬ IsBefore g f)
    × ((f : FormatParts) → ¬ AllHold r f lines → ¬ AllHold r f (lines ++ more))
