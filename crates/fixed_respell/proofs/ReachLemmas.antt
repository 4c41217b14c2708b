-- From a reading through the source to the target.
use Rattle.std.proofs.Common.{◌≡◌, ℕ, ◌⊎◌, ◌↔◌, ◌||◌, Bool, true, false, IsTrue, List, refl, subst, ⊎_elim, inl, inr, ℤ}
use Rattle.std.proofs.lemmas.Bool.{false≢true}
use Rattle.fixed_bits.specs.Down.{down}
use Rattle.fixed_bits.specs.Formats.{FormatParts}
use Rattle.fixed_bits.specs.Images.{IsImage, IsOutOfRangeBy}
use Rattle.fixed_bits.specs.Numbers.{IsNumber, IsRefused}
use Rattle.fixed_bits.specs.Ranges.{IsOutOfRange}
use Rattle.fixed_bits.specs.declared.format.Policy.{Policy}
use Rattle.fixed_bits.specs.declared.format.Policy.TheVariants.{Checked}
use Rattle.fixed_bits.specs.declared.mode.ReadMode.{ReadMode}
use Rattle.fixed_bits.proofs.Public.{down_is, refused_out}
use Rattle.fixed_numeral.specs.Numeral.{Parts, HasNumeral}
use Rattle.fixed_numeral.specs.declared.error.ParseErrorKind.{ParseErrorKind}
use Rattle.fixed_numeral.specs.declared.error.ParseErrorKind.TheVariants.{Overflow}
use Rattle.fixed_numeral.specs.declared.radix.Radix.{Radix}
use Rattle.fixed_read.specs.Reading.{IsReadNumber, IsReading, number_in}
use Rattle.fixed_read.specs.declared.read_number.ReadNumber.{ReadNumber}
use Rattle.fixed_respell.specs.Reached.{IsReached, IsOverflowed, IsRespelled, IsRefusal}

-- the bytes are a numeral, and `found` holds the number that it reads as
pub record IsRead (mode : ReadMode) (r : Radix) (bytes : List ℕ) (source : FormatParts) (found : ReadNumber) : Type 0 where
  pub parts : Parts
  pub numeral : HasNumeral r bytes parts
  pub number : ℤ
  pub read : IsReadNumber mode r parts source.frac number
  pub holds : IsNumber (number_in found) number
  pub format : found.format ≡ source

pub read_of : (mode : ReadMode) (r : Radix) (bytes : List ℕ) (source : FormatParts) (found : ReadNumber) → ((p : Parts) × HasNumeral r bytes p) → ((p : Parts) → HasNumeral r bytes p → IsReading mode r p found) → found.format ≡ source → IsRead mode r bytes source found
read_of mode r bytes source found (p, numeral) reading format = record {
  parts = p;
  numeral = numeral;
  number = (reading p numeral).number;
  read = subst (λ f. IsReadNumber mode r p f.frac (reading p numeral).number) format (reading p numeral).read;
  holds = (reading p numeral).holds;
  format = format;
}

-- the numeral overflows under Checked
none : (mode : ReadMode) (r : Radix) (bytes : List ℕ) (policy : Policy) (source target : FormatParts) (found : ReadNumber) (kind : ParseErrorKind) (is : IsRead mode r bytes source found) → kind ≡ Overflow → policy ≡ Checked
    → IsOutOfRange source.signed source.width is.number ⊎ IsOutOfRange target.signed target.width (down is.number source.frac target.frac) → IsRefusal mode r bytes policy source target kind
none mode r bytes policy source target found kind is overflow checked out =
    let overflowed : IsOverflowed mode r is.parts policy source target = record {
      number = is.number;
      moved = down is.number source.frac target.frac;
      checked = checked;
      read = is.read;
      down = down_is is.number source.frac target.frac;
      out = out;
    } in
    inr (overflow, record { parts = is.parts; numeral = is.numeral; overflowed = overflowed })

-- a number on the way is out of its format's range
pub refused : (mode : ReadMode) (r : Radix) (bytes : List ℕ) (policy : Policy) (source target : FormatParts) (found : ReadNumber) (b : ℤ) (o u : Bool) (kind : ParseErrorKind) (is : IsRead mode r bytes source found) → kind ≡ Overflow
    → (¬ IsRefused policy o → IsImage policy source.signed source.width is.number b) → (IsTrue o ↔ IsOutOfRangeBy policy source.signed source.width is.number)
    → (IsTrue u ↔ IsOutOfRangeBy policy target.signed target.width (down b source.frac target.frac)) → (policy ≡ Checked) × (IsTrue o ⊎ IsTrue u) → IsRefusal mode r bytes policy source target kind
refused mode r bytes policy source target found b true u kind is overflow image flag out why = none mode r bytes policy source target found kind is overflow why.0 (inl ((refused_out policy source.signed source.width is.number why.0).0 (flag.0 refl)))
refused mode r bytes policy source target found b false u kind is overflow image flag out why =
    let image_is : IsImage policy source.signed source.width is.number b = image (λ w. let t : IsTrue false = w.1 in absurd (cc)) in
    let exact : IsImage Checked source.signed source.width is.number b = rw why.0 at image_is in
    let past = (refused_out policy target.signed target.width (down b source.frac target.frac) why.0).0 (out.0 (⊎_elim (λ (t : IsTrue false). absurd (cc)) (λ (t : IsTrue u). t) why.1)) in
    none mode r bytes policy source target found kind is overflow why.0 (inr (subst (λ c. IsOutOfRange target.signed target.width (down c source.frac target.frac)) exact.same past))

-- the bits that are reached
either_out : (o u : Bool) (A B : Type 0) → (IsTrue o ↔ A) → (IsTrue u ↔ B) → IsTrue (o || u) ↔ (A ⊎ B)
either_out true u A B a b = ((λ _. inl (a.0 refl)), (λ _. refl))
either_out false u A B a b = ((λ t. inr (b.0 t)), ⊎_elim (λ x. absurd (false≢true (a.1 x))) b.1)

pub respelled : (mode : ReadMode) (r : Radix) (bytes : List ℕ) (policy : Policy) (source target : FormatParts) (found : ReadNumber) (b c : ℤ) (o u : Bool) (is : IsRead mode r bytes source found)
    → IsImage policy source.signed source.width is.number b → (IsTrue o ↔ IsOutOfRangeBy policy source.signed source.width is.number)
    → IsImage policy target.signed target.width (down b source.frac target.frac) c → (IsTrue u ↔ IsOutOfRangeBy policy target.signed target.width (down b source.frac target.frac)) → IsRespelled mode r bytes policy source target c (o || u)
respelled mode r bytes policy source target found b c o u is image flag moved out =
    let reached : IsReached mode r is.parts policy source target c (o || u) = record {
      number = is.number;
      in_source = b;
      moved = down b source.frac target.frac;
      read = is.read;
      source_image = image;
      down = down_is b source.frac target.frac;
      target_image = moved;
      flag = either_out o u _ _ flag out;
    } in
    record { parts = is.parts; numeral = is.numeral; reached = reached }
