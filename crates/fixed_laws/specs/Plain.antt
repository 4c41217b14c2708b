-- Plain styled texts read back.
use Rattle.std.specs.Prelude.{ℕ, ◌≤◌, List, ℤ}
use Rattle.fixed_bits.specs.Ranges.{IsWide}
use Rattle.fixed_bits.specs.declared.mode.ReadMode.TheVariants.{NearestEven}
use Rattle.fixed_numeral.specs.declared.radix.Radix.{Radix}
use Rattle.fixed_numeral.specs.Numeral.{Parts, HasNumeral}
use Rattle.fixed_read.specs.Reading.{IsReadNumber}
use Rattle.fixed_write.specs.declared.style.Notation.{Notation}
use Rattle.fixed_write.specs.declared.style.Notation.TheVariants.{Dec, LowerExp, UpperExp, Bin, Oct, LowerHex, UpperHex}
use Rattle.fixed_write.specs.Styled.{IsStyledText, plain_style}
use Rattle.fixed_laws.specs.Radices.{binary, octal, decimal_radix, hexadecimal}

-- the radix in which a notation is read
abbrev pub radix_of : Notation → Radix
radix_of Dec = decimal_radix
radix_of LowerExp = decimal_radix
radix_of UpperExp = decimal_radix
radix_of Bin = binary
radix_of Oct = octal
radix_of LowerHex = hexadecimal
radix_of UpperHex = hexadecimal

-- text is a numeral of the radix whose read number for g is c
abbrev pub ReadsAs : Radix → List ℕ → ℕ → ℤ → Type 0
ReadsAs r text g c = (p : Parts) × HasNumeral r text p × IsReadNumber NearestEven r p g c

-- the plain text of c / 2^g in any notation is a numeral of its radix whose read number for g is c
abbrev pub PlainTextReadsBack : Type 0
PlainTextReadsBack = (n : Notation) (c : ℤ) (g : ℕ) (text : List ℕ) → IsWide c → g ≤ 64
    → IsStyledText (plain_style n) c g text → ReadsAs (radix_of n) text g c
