-- The state while a list is read.
use Rattle.std.specs.Prelude.{◌≡◌, ◌+◌, ℕ, ℤ, List, [], ◌++◌, None, Option, Some, length}
use Rattle.line_engine.specs.Lines.{lines}
use Rattle.fixed_arrays.specs.Answer.{AreElements, HasFault, IsElement, IsRefusedElement, frame_of, numerals_in}
use Rattle.fixed_arrays.specs.Table.{element_line, element_lines}
use Rattle.fixed_arrays.specs.declared.elements.Elements.{Elements}
use Rattle.fixed_arrays.specs.declared.fault.ArrayFault.{ArrayFault}
use Rattle.fixed_arrays.specs.declared.fault.ArrayFault.TheVariants.{Empty, NoMemory, Refused}
use Rattle.fixed_arrays.specs.declared.rule.ArrayRule.{ArrayRule}
use Rattle.fixed_arrays.specs.declared.rule.Numerals.{Numerals}

-- the numbers of these lines, and in `e` the lines written for them, their count, and how many lines these are
pub record HasElements (r : ArrayRule) (some : List (Option (List ℕ))) (e : Elements) : Type 0 where
  pub numbers : List ℤ
  pub elements : AreElements r.numerals some numbers
  pub text : e.text.items ≡ element_lines (frame_of r) 0 numbers
  pub count : e.count ≡ length numbers
  pub lines : e.lines ≡ length some

-- the lines of the input before `rest` have been read
pub record HasReadTo (r : ArrayRule) (input rest : List ℕ) (e : Elements) : Type 0 where
  pub some : List (Option (List ℕ))
  pub cut : numerals_in r.layout.now (lines input) ≡ some ++ numerals_in r.layout.now (lines rest)
  pub has : HasElements r some e

-- why there is no array: a fault of the list, or lack of memory
abbrev pub HasError : Numerals → List (Option (List ℕ)) → ArrayFault → Type 0
HasError n all Empty = HasFault n all Empty
HasError n all (Refused place kind) = HasFault n all (Refused place kind)
HasError n all NoMemory = Unit {0}

-- a line without a numeral was passed over
pub record PassesLine (old new : Elements) : Type 0 where
  pub text : new.text.items ≡ old.text.items
  pub count : new.count ≡ old.count
  pub lines : new.lines ≡ old.lines + 1

-- the element of a line was appended
pub record PushesElement (r : ArrayRule) (line : List ℕ) (old new : Elements) : Type 0 where
  pub bits : ℤ
  pub element : IsElement r.numerals line bits
  pub text : new.text.items ≡ old.text.items ++ element_line (frame_of r) old.count [] bits
  pub count : new.count ≡ old.count + 1
  pub lines : new.lines ≡ old.lines + 1

-- the same of a line with a numeral or without one
abbrev pub PushesLine : ArrayRule → Option (List ℕ) → Elements → Elements → Type 0
PushesLine r None old new = PassesLine old new
PushesLine r (Some line) old new = PushesElement r line old new

-- the line, which has this number, was refused, or memory ran out
abbrev pub RefusesElement : Numerals → List ℕ → ℕ → ArrayFault → Type 0
RefusesElement n line number Empty = ⊥
RefusesElement n line number (Refused place kind) = IsRefusedElement n line kind × (place ≡ number)
RefusesElement n line number NoMemory = Unit {0}

abbrev pub RefusesLine : Numerals → Option (List ℕ) → ℕ → ArrayFault → Type 0
RefusesLine n None number fault = ⊥
RefusesLine n (Some line) number fault = RefusesElement n line number fault
