-- From the reading of a numeral to its definition.
use Rattle.std.proofs.Common.{◌≡◌, ℕ, List, ℤ, sym, subst, refl, inr}
use Rattle.fixed_bits.specs.Formats.{FormatParts}
use Rattle.fixed_bits.specs.Images.{IsImage}
use Rattle.fixed_bits.specs.Ranges.{IsInRange, IsOutOfRange}
use Rattle.fixed_bits.specs.declared.format.Policy.TheVariants.{Checked}
use Rattle.fixed_bits.specs.declared.mode.ReadMode.TheVariants.{NearestEven}
use Rattle.fixed_numeral.specs.Numeral.{Parts, HasNumeral}
use Rattle.fixed_numeral.specs.declared.error.ParseErrorKind.TheVariants.{Overflow}
use Rattle.fixed_numeral.specs.declared.radix.Radix.TheVariants.{Dec}
use Rattle.fixed_bits.specs.Numbers.{IsNumber}
use Rattle.fixed_read.specs.Reading.{IsReading, IsReadNumber, number_in}
use Rattle.fixed_read.specs.declared.read_number.ReadNumber.{ReadNumber}
use Rattle.fixed_columns.specs.Rows.{IsNumeralOf, IsRefusedNumeral}

-- a reading into the format whose number is in range
pub numeral_in : (f : FormatParts) (bytes : List ℕ) (found : ReadNumber) (p : Parts) (bits : ℤ) → found.format ≡ f → HasNumeral Dec bytes p → IsReading NearestEven Dec p found
    → ((v : ℤ) → IsNumber (number_in found) v → IsImage Checked found.format.signed found.format.width v bits) → IsInRange found.format.signed found.format.width bits → IsNumeralOf f bytes bits
numeral_in f bytes found p bits is has reading image in_range =
    let at : bits ≡ reading.number = (image reading.number reading.holds).same in
    let R : FormatParts → Type 0 = λ g. IsInRange g.signed g.width bits in
    let N : FormatParts → Type 0 = λ g. IsReadNumber NearestEven Dec p g.frac reading.number in
    let V : ℤ → Type 0 = λ v. IsReadNumber NearestEven Dec p f.frac v in
    record { parts = p; has = has; read = subst V (sym at) (subst N is reading.read); in_range = subst R is in_range }

-- a reading into the format whose number is out of range
pub numeral_out : (f : FormatParts) (bytes : List ℕ) (found : ReadNumber) (p : Parts) → found.format ≡ f → HasNumeral Dec bytes p → IsReading NearestEven Dec p found
    → ((v : ℤ) → IsNumber (number_in found) v → IsOutOfRange found.format.signed found.format.width v) → IsRefusedNumeral f bytes Overflow
numeral_out f bytes found p is has reading out =
    let O : FormatParts → Type 0 = λ g. IsOutOfRange g.signed g.width reading.number in
    let N : FormatParts → Type 0 = λ g. IsReadNumber NearestEven Dec p g.frac reading.number in
    inr (refl, record { parts = p; has = has; number = reading.number; read = subst N is reading.read; out_of_range = subst O is (out reading.number reading.holds) })
