-- Laws of parts of words.
use Rattle.std.specs.Prelude.{◌≡◌, ◌↔◌, ℕ, ◌^◌, ◌<◌, Bool, false, List, None, Some, ℤ}
use Rattle.fixed_bits.specs.Formats.{FormatParts}
use Rattle.fixed_bits.specs.Ranges.{IsWidth}
use Rattle.fixed_numeral.specs.declared.radix.Radix.{Radix}
use Rattle.fixed_show.specs.PartText.{HasPartFault, IsPart, IsPartBlock, IsPartObject, reversed_bytes}
use Rattle.fixed_show.specs.WordText.{IsPlainWord}
use Rattle.fixed_show.specs.declared.parts.Part.{Part}
use Rattle.fixed_show.specs.declared.parts.PartFault.{PartFault}

-- a word has at most one fault
abbrev pub PartFaultIsTheOne : Type 0
PartFaultIsTheOne = (bare : Radix) (part : Part) (f : FormatParts) (text : List ℕ) (a b : PartFault)
    → HasPartFault bare part f text a → HasPartFault bare part f text b → a ≡ b

-- a word that has the part has no fault
abbrev pub PartHasNoFault : Type 0
PartHasNoFault = (bare : Radix) (part : Part) (f : FormatParts) (text : List ℕ) (fault : PartFault) (v : ℤ)
    → HasPartFault bare part f text fault → ¬ IsPart bare part f text v

-- a word has at most one number for a part
abbrev pub PartIsTheOne : Type 0
PartIsTheOne = (bare : Radix) (part : Part) (f : FormatParts) (text : List ℕ) (v w : ℤ) → IsWidth f.width
    → IsPart bare part f text v → IsPart bare part f text w → v ≡ w

-- a word has one block for a part of it
abbrev pub PartBlockIsTheOne : Type 0
PartBlockIsTheOne = (bare : Radix) (part : Part) (f : FormatParts) (text : List ℕ) (o p : Bool) (a b : List ℕ)
    → IsWidth f.width → IsPartBlock bare part f text o a → IsPartBlock bare part f text p b → (o ≡ p) × (a ≡ b)

-- a word has one object for a part of it
abbrev pub PartObjectIsTheOne : Type 0
PartObjectIsTheOne = (bare : Radix) (part : Part) (f : FormatParts) (text : List ℕ) (o p : Bool) (a b : List ℕ)
    → IsWidth f.width → IsPartObject bare part f text o a → IsPartObject bare part f text p b → (o ≡ p) × (a ≡ b)

-- without a field and without reversed bytes, a word without a sign is what it is as a word of the format
abbrev pub WholeIsTheWord : Type 0
WholeIsTheWord = (bare : Radix) (f : FormatParts) (text : List ℕ) (v : ℤ) → IsWidth f.width
    → IsPart bare (record { low = None; is_reversed = false }) f text v ↔ IsPlainWord bare f text v

-- the field of all the bits of a word is that word
abbrev pub WholeFieldIsTheWord : Type 0
WholeFieldIsTheWord = (bare : Radix) (f : FormatParts) (text : List ℕ) (v : ℤ) → IsWidth f.width
    → IsPlainWord bare f text v → IsPart bare (record { low = Some 0; is_reversed = false }) f text v

-- bytes that are reversed twice are as they were
abbrev pub ReversedTwice : Type 0
ReversedTwice = (count n : ℕ) → n < 256 ^ count → reversed_bytes count (reversed_bytes count n) ≡ n
