-- The enclosure of a numeral, from one reading in mode Floor.
use Rattle.std.proofs.Common.{◌≡◌, ℕ, ◌⊎◌, List, sym, subst, ℤ}
use Rattle.fixed_bits.specs.Formats.{FormatParts}
use Rattle.fixed_bits.specs.Ranges.{IsInRange, IsOutOfRange}
use Rattle.fixed_bits.specs.declared.mode.ReadMode.TheVariants.{Floor}
use Rattle.fixed_numeral.specs.Numeral.{Parts, HasNumeral}
use Rattle.fixed_numeral.specs.Value.{magnitude}
use Rattle.fixed_numeral.specs.declared.radix.Radix.{Radix}
use Rattle.fixed_bits.specs.Numbers.{IsNumber}
use Rattle.fixed_read.specs.Reading.{IsReading, number_in}
use Rattle.fixed_read.specs.declared.read_number.ReadNumber.{ReadNumber}
use Rattle.fixed_enclose.specs.Enclosure.{Encloses, IsEnclosed, IsUnenclosed, in_ulps}
use Rattle.fixed_enclose.specs.Lemmas.EnclosureLemmas.{upper, encloses_of}

-- both ends are in range
pub enclosed : (r : Radix) (bytes : List ℕ) (format : FormatParts) (p : Parts) (found : ReadNumber) (lo hi : ℤ) → HasNumeral r bytes p → IsReading Floor r p found → found.format ≡ format
    → ((v : ℤ) → IsNumber (number_in found) v → (lo ≡ v) × (hi ≡ upper found.exact v)) → IsInRange found.format.signed found.format.width lo → IsInRange found.format.signed found.format.width hi → IsEnclosed r bytes format lo hi
enclosed r bytes format p found lo hi numeral reading same ends low high =
    let v = reading.number in
    let e = ends v reading.holds in
    let encloses = encloses_of r p found.format.frac v found.exact reading.read reading.exact in
    let Low : ℤ → Type 0 = λ a. Encloses (in_ulps r p found.format.frac) (magnitude r p).den a (upper found.exact v) in
    let High : ℤ → Type 0 = λ a. Encloses (in_ulps r p found.format.frac) (magnitude r p).den lo a in
    let F : FormatParts → Type 0 = λ f. IsEnclosed r bytes f lo hi in
    subst F same (record {
      parts = p;
      numeral = numeral;
      encloses = subst High (sym e.1) (subst Low (sym e.0) encloses);
      low = low;
      high = high;
    })

-- one end is out of range
pub unenclosed : (r : Radix) (bytes : List ℕ) (format : FormatParts) (p : Parts) (found : ReadNumber) → HasNumeral r bytes p → IsReading Floor r p found → found.format ≡ format
    → ((v : ℤ) → IsNumber (number_in found) v → IsOutOfRange found.format.signed found.format.width v ⊎ IsOutOfRange found.format.signed found.format.width (upper found.exact v)) → IsUnenclosed r bytes format
unenclosed r bytes format p found numeral reading same out =
    let F : FormatParts → Type 0 = λ f. IsUnenclosed r bytes f in
    subst F same (record {
      parts = p;
      numeral = numeral;
      lo = reading.number;
      hi = upper found.exact reading.number;
      encloses = encloses_of r p found.format.frac reading.number found.exact reading.read reading.exact;
      out = out reading.number reading.holds;
    })
