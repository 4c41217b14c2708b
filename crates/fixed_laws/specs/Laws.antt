-- Texts that are read back.
use Rattle.std.specs.Prelude.{ℕ, Bool, List, ℤ}
use Rattle.fixed_bits.specs.declared.mode.ReadMode.TheVariants.{NearestEven}
use Rattle.fixed_numeral.specs.declared.radix.Radix.{Radix}
use Rattle.fixed_numeral.specs.declared.radix.Radix.TheVariants.{Dec}
use Rattle.fixed_numeral.specs.Numeral.{Parts, HasNumeral, IsNumeral, base}
use Rattle.fixed_read.specs.Reading.{IsReadNumber}
use Rattle.fixed_bits.specs.declared.mode.ReadMode.{ReadMode}
use Rattle.fixed_write.specs.Texts.{IsShortestText}
use Rattle.fixed_write.specs.Places.{IsExactText, IsRoundedText}

-- the default text of c / 2^g is a decimal numeral whose read number for g is c
abbrev pub DefaultTextReadsBack : Type 0
DefaultTextReadsBack = (c : ℤ) (g : ℕ) (text : List ℕ) → IsShortestText c g text
    → (p : Parts) × HasNumeral Dec text p × IsReadNumber NearestEven Dec p g c

-- the exact text of c / 2^g in a base is a numeral of the base whose read number for g is c
abbrev pub ExactTextReadsBack : Type 0
ExactTextReadsBack = (r : Radix) (upper : Bool) (c : ℤ) (g : ℕ) (text : List ℕ) → IsExactText (base r) upper c g text
    → (p : Parts) × HasNumeral r text p × IsReadNumber NearestEven r p g c

-- the text rounded to any number of places, in any mode, is a numeral of the base
abbrev pub RoundedTextIsNumeral : Type 0
RoundedTextIsNumeral = (mode : ReadMode) (r : Radix) (upper : Bool) (c : ℤ) (g k : ℕ) (text : List ℕ)
    → IsRoundedText mode (base r) upper k c g text → IsNumeral r text
