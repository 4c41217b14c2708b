-- Laws of register words.
use Rattle.std.specs.Prelude.{◌≡◌, ℕ, ℤ, List}
use Rattle.fixed_bits.specs.Formats.{FormatParts}
use Rattle.fixed_bits.specs.Ranges.{IsWidth}
use Rattle.fixed_numeral.specs.declared.radix.Radix.{Radix}
use Rattle.fixed_show.specs.WordText.{HasWordFault, IsWord}
use Rattle.fixed_show.specs.declared.words.WordFault.{WordFault}

-- as a word of a format, a text is at most one number
abbrev pub WordIsTheOne : Type 0
WordIsTheOne = (bare : Radix) (f : FormatParts) (text : List ℕ) (v w : ℤ) → IsWidth f.width → IsWord bare f text v
    → IsWord bare f text w → v ≡ w

-- a text has at most one fault
abbrev pub WordFaultIsTheOne : Type 0
WordFaultIsTheOne = (bare : Radix) (f : FormatParts) (text : List ℕ) (a b : WordFault) → HasWordFault bare f text a
    → HasWordFault bare f text b → a ≡ b

-- a text that is a word has no fault
abbrev pub WordHasNoFault : Type 0
WordHasNoFault = (bare : Radix) (f : FormatParts) (text : List ℕ) (fault : WordFault) (v : ℤ)
    → HasWordFault bare f text fault → ¬ IsWord bare f text v
