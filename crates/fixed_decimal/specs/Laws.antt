-- Statements of this crate's laws.
use Rattle.std.specs.Prelude.{◌≡◌, ℕ, ◌*◌, ℤ, ◌≤ℤ◌}
use Rattle.fixed_bits.specs.declared.mode.ReadMode.{ReadMode}
use Rattle.fixed_decimal.specs.Decimals.{IsReadDecimal, IsWholeUnits}
use Rattle.fixed_decimal.specs.Texts.{decimal_format_text}
use Rattle.fixed_numeral.specs.Numeral.{Parts, HasNumeral, signed}
use Rattle.fixed_numeral.specs.Value.{magnitude}
use Rattle.fixed_numeral.specs.declared.radix.Radix.TheVariants.{Dec}

-- a numeral has exactly one read number for each mode and number of places
abbrev pub ReadDecimalIsTheOne : Type 0
ReadDecimalIsTheOne = (mode : ReadMode) (p : Parts) (n : ℕ) → (v : ℤ) × IsReadDecimal mode p n v
    × ((w : ℤ) → IsReadDecimal mode p n w → w ≡ v)

-- the text of b is a decimal numeral; in each mode it reads as b, and nothing is rounded
abbrev pub DecimalTextReadsBack : Type 0
DecimalTextReadsBack = (mode : ReadMode) (b : ℤ) (n : ℕ) → (p : Parts) × HasNumeral Dec (decimal_format_text b n) p
    × IsReadDecimal mode p n b × IsWholeUnits p n

-- two numbers with the same text are the same number
abbrev pub DecimalTextIsTheOne : Type 0
DecimalTextIsTheOne = (b c : ℤ) (n : ℕ) → decimal_format_text b n ≡ decimal_format_text c n → b ≡ c

-- the value of one numeral is at most that of another, compared over a common denominator
abbrev pub IsAtMost : Parts → Parts → Type 0
IsAtMost p q = signed p.sign ((magnitude Dec p).num * (magnitude Dec q).den)
    ≤ℤ signed q.sign ((magnitude Dec q).num * (magnitude Dec p).den)

-- a numeral that is at most another has a read number that is at most the other's, in each mode
abbrev pub ReadDecimalKeepsOrder : Type 0
ReadDecimalKeepsOrder = (mode : ReadMode) (p q : Parts) (n : ℕ) (v w : ℤ) → IsAtMost p q → IsReadDecimal mode p n v
    → IsReadDecimal mode q n w → v ≤ℤ w
