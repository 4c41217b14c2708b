-- Statements of this crate's laws.
use Rattle.std.specs.Prelude.{◌≡◌, ℕ, ℤ}
use Rattle.fixed_bits.specs.declared.mode.ReadMode.{ReadMode}
use Rattle.fixed_numeral.specs.Numeral.{Parts}
use Rattle.fixed_numeral.specs.declared.radix.Radix.{Radix}
use Rattle.fixed_read.specs.Reading.{IsReadNumber}

-- a numeral has exactly one read number
abbrev pub ReadNumberIsTheOne : Type 0
ReadNumberIsTheOne = (mode : ReadMode) (r : Radix) (p : Parts) (f : ℕ) → (v : ℤ) × IsReadNumber mode r p f v
    × ((w : ℤ) → IsReadNumber mode r p f w → w ≡ v)
