-- What a reading into a format returns to C.
use Rattle.std.proofs.Common.{◌≡◌, ◌↔◌, subst, ℕ, ℤ, Bool, IsTrue}
use Rattle.fixed_bits.specs.Formats.{FormatParts}
use Rattle.fixed_bits.specs.Images.{IsImage, IsOutOfRangeBy}
use Rattle.fixed_bits.specs.Ranges.{IsOutOfRange}
use Rattle.fixed_bits.specs.declared.format.Policy.{Policy}
use Rattle.fixed_bits.specs.declared.format.Policy.TheVariants.{Checked}
use Rattle.fixed_bits.specs.declared.mode.ReadMode.{ReadMode}
use Rattle.fixed_numeral.specs.Numeral.{Parts}
use Rattle.fixed_numeral.specs.declared.radix.Radix.{Radix}
use Rattle.fixed_bits.specs.Numbers.{IsNumber}
use Rattle.fixed_read.specs.Reading.{IsReading, IsReadNumber, number_in}
use Rattle.fixed_read.specs.declared.read_number.ReadNumber.{ReadNumber}
use Rattle.fixed_c.specs.Arguments.{NamesFormat}
use Rattle.fixed_c.specs.Numbers.{flag_of, has_bits}
use Rattle.fixed_c.specs.Read.{IsReadBy, OverflowsBy}

-- a property of each number that a reading may stand for
abbrev OfNumber : ReadNumber → (FormatParts → ℤ → Type 0) → Type 0
OfNumber found P = (v : ℤ) → IsNumber (number_in found) v → P found.format v

module _ (Has : Parts → Type 0) (f : FormatParts) (r : Radix) (p : Policy) (m : ReadMode) (found : ReadNumber) (q : Parts) (has : Has q)
    (reading : (q : Parts) → Has q → IsReading m r q found) (format : found.format ≡ f) where
  pub read_as : (bits : ℤ) (flag : ℕ) (image : ℤ) (out : Bool) → NamesFormat f
      → OfNumber found (λ g v. IsImage p g.signed g.width v image) → OfNumber found (λ g v. IsTrue out ↔ IsOutOfRangeBy p g.signed g.width v)
      → has_bits f.signed bits image → flag ≡ flag_of out → IsReadBy Has f bits flag r p m
  read_as bits flag image out named images range bits_are flag_is =
      let is : IsReading m r q found = reading q has in
      let read : IsReadNumber m r q f.frac is.number = subst (λ (g : FormatParts). IsReadNumber m r q g.frac is.number) format is.read in
      record {
        format = named;
        number = is.number;
        has = record { parts = q; has = has; read = read };
        brought = record {
          image = image;
          image_is = subst (λ (g : FormatParts). IsImage p g.signed g.width is.number image) format (images is.number is.holds);
          bits_are = bits_are;
          overflowed = out;
          flag_is = flag_is;
          overflowed_is = subst (λ (g : FormatParts). IsTrue out ↔ IsOutOfRangeBy p g.signed g.width is.number) format (range is.number is.holds);
        };
      }

  pub not_read : OfNumber found (λ g v. (p ≡ Checked) × IsOutOfRange g.signed g.width v) → OverflowsBy Has f r p m
  not_read out =
      let is : IsReading m r q found = reading q has in
      let read : IsReadNumber m r q f.frac is.number = subst (λ (g : FormatParts). IsReadNumber m r q g.frac is.number) format is.read in
      let why : (p ≡ Checked) × IsOutOfRange f.signed f.width is.number = subst (λ (g : FormatParts). (p ≡ Checked) × IsOutOfRange g.signed g.width is.number) format (out is.number is.holds) in
      record { number = is.number; has = record { parts = q; has = has; read = read }; out = record { checked = why.0; out = why.1 } }
