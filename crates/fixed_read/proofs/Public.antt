-- For the proofs of dependent crates: a numeral reads as one number.
use Rattle.std.specs.Prelude.{◌≡◌, ℕ, ℤ}
use Rattle.fixed_bits.specs.declared.mode.ReadMode.{ReadMode}
use Rattle.fixed_numeral.specs.declared.radix.Radix.{Radix}
use Rattle.fixed_numeral.specs.Numeral.{Parts}
use Rattle.fixed_read.specs.Laws.{ReadNumberIsTheOne}
use Rattle.fixed_read.specs.Reading.{IsReadNumber}
use Rattle.fixed_read.proofs.ReadLemmas

pub read_number_is_the_one : ReadNumberIsTheOne
read_number_is_the_one = ReadLemmas.read_number_is_the_one

pub read_unique : (mode : ReadMode) (r : Radix) (p : Parts) (f : ℕ) (v w : ℤ) → IsReadNumber mode r p f v → IsReadNumber mode r p f w → v ≡ w
read_unique = ReadLemmas.read_unique
