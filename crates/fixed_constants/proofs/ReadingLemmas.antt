-- From the reading of a literal to its definition.
use Rattle.std.proofs.Common.{◌≡◌, ℕ, List, ℤ, sym, ◌∙◌, subst, refl, inr, Bool, true, false, IsTrue, ◌↔◌, [], ◌∷◌}
use Rattle.std.proofs.lemmas.Bool.{false≢true}
use Rattle.fixed_respell.specs.LineWords.{HasWords}
use Rattle.fixed_bits.specs.Formats.{FormatParts}
use Rattle.fixed_bits.specs.Images.{IsImage}
use Rattle.fixed_bits.specs.Ranges.{IsInRange, IsOutOfRange}
use Rattle.fixed_bits.specs.declared.format.Policy.TheVariants.{Checked}
use Rattle.fixed_bits.specs.declared.mode.ReadMode.TheVariants.{NearestEven}
use Rattle.fixed_numeral.specs.Literal.{HasLiteral, literal_radix}
use Rattle.fixed_numeral.specs.Numeral.{Parts}
use Rattle.fixed_numeral.specs.declared.error.ParseErrorKind.TheVariants.{Overflow}
use Rattle.fixed_bits.specs.Numbers.{IsNumber}
use Rattle.fixed_read.specs.Reading.{IsReading, IsReadNumber, number_in}
use Rattle.fixed_read.specs.declared.read_number.ReadNumber.{ReadNumber}
use Rattle.fixed_constants.specs.Constants.{Fields, IsLiteralOf, IsPassedOver, IsRefusedLiteral}

-- a reading into the format whose number is in range
pub literal_in : (f : FormatParts) (bytes : List ℕ) (found : ReadNumber) (p : Parts) (bits : ℤ) → found.format ≡ f → HasLiteral f.signed bytes p → IsReading NearestEven (literal_radix f.signed bytes) p found
    → ((v : ℤ) → IsNumber (number_in found) v → IsImage Checked found.format.signed found.format.width v bits) → IsInRange found.format.signed found.format.width bits → IsLiteralOf f bytes bits
literal_in f bytes found p bits is has reading image in_range =
    let same = image reading.number reading.holds in
    let at : bits ≡ reading.number = same.same in
    let R : FormatParts → Type 0 = λ g. IsInRange g.signed g.width bits in
    let N : FormatParts → Type 0 = λ g. IsReadNumber NearestEven (literal_radix f.signed bytes) p g.frac reading.number in
    let V : ℤ → Type 0 = λ v. IsReadNumber NearestEven (literal_radix f.signed bytes) p f.frac v in
    record {
      parts = p;
      has = has;
      read = subst V (sym at) (subst N is reading.read);
      in_range = subst R is in_range;
    }

-- a reading into the format whose number is out of range
pub literal_out : (f : FormatParts) (bytes : List ℕ) (found : ReadNumber) (p : Parts) → found.format ≡ f → HasLiteral f.signed bytes p → IsReading NearestEven (literal_radix f.signed bytes) p found
    → ((v : ℤ) → IsNumber (number_in found) v → IsOutOfRange found.format.signed found.format.width v) → IsRefusedLiteral f bytes Overflow
literal_out f bytes found p is has reading out =
    let O : FormatParts → Type 0 = λ g. IsOutOfRange g.signed g.width reading.number in
    let N : FormatParts → Type 0 = λ g. IsReadNumber NearestEven (literal_radix f.signed bytes) p g.frac reading.number in
    inr (
      refl,
      record {
        parts = p;
        has = has;
        number = reading.number;
        read = subst N is reading.read;
        out_of_range = subst O is (out reading.number reading.holds);
      },
    )

-- ---- the fields of a line
abbrev pub fields_of : (line name equals literal format : List ℕ) → (IsPassedOver line → ⊥) → HasWords line (name ∷ equals ∷ literal ∷ []) format → Fields line
fields_of line name equals literal format spoken has = record { spoken = spoken; name = name; equals = equals; literal = literal; format = format; has = has }

-- from the result of a test to what it decides
pub yes_by : (b : Bool) (P : Type 0) → (IsTrue b ↔ P) → b ≡ true → P
yes_by b P same e = same.0 e

pub no_by : (b : Bool) (P : Type 0) → (IsTrue b ↔ P) → b ≡ false → P → ⊥
no_by b P same e p = false≢true (sym e ∙ same.1 p)
