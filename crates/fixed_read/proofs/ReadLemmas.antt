-- The number that a numeral reads as, and whether it is in range.
use Rattle.std.proofs.Common.{◌≡◌, ℕ, ◌+◌, ◌*◌, ◌^◌, ◌<◌, ◌⊎◌, ◌↔◌, Bool, List, Option, Some, None, IfSome, refl, sym, ap, subst, ◌∙◌, arith, inr, ⊎_elim, ℤ, Result, Ok, Err, IsOk, IfOk, IfErr}
use Rattle.fixed_bits.specs.Numbers.{IsNumber, with_sign}
use Rattle.fixed_bits.specs.Rounded.{IsRounded}
use Rattle.fixed_bits.specs.Ranges.{IsInRange}
use Rattle.fixed_bits.specs.declared.mode.ReadMode.{ReadMode}
use Rattle.fixed_numeral.specs.Answer.{IsReadOrRefused}
use Rattle.fixed_numeral.specs.Literal.{HasLiteral, literal_radix}
use Rattle.fixed_numeral.specs.Numeral.{Parts, base, is_minus, signed}
use Rattle.fixed_numeral.specs.Scanned.{IsScanned}
use Rattle.fixed_numeral.specs.Spelled.{IsSameNumber}
use Rattle.fixed_numeral.specs.Value.{Fraction, magnitude}
use Rattle.fixed_numeral.specs.declared.radix.Radix.{Radix}
use Rattle.fixed_numeral.specs.declared.radix.Radix.TheVariants.{Bin}
use Rattle.fixed_numeral.proofs.Public.{magnitude_pos}
use Rattle.fixed_bits.proofs.Public.{rounded_unique, rounded_exists, range_decided}
use Rattle.fixed_read.specs.Reading.{IsReadNumber, IsReading, IsReadInRange, IsReadOutOfRange, number_in}
use Rattle.fixed_read.specs.declared.magnitude.Ulps.{Ulps}
use Rattle.fixed_read.specs.declared.read_number.ReadNumber.{ReadNumber}
use Rattle.fixed_read.specs.Laws.{ReadNumberIsTheOne}
use Rattle.fixed_bits.specs.Rounded.{magnitude_mode}
use Rattle.fixed_read.specs.Inner.Rounding.{IsMagnitude, IsSplitNumeral}
use Rattle.fixed_read.proofs.ShortNumeralLemmas.{magnitude_same}
use Rattle.fixed_bits.proofs.Public.{magnitude_rounded}

-- ---- a numeral reads as one number
pub read_unique : (mode : ReadMode) (r : Radix) (p : Parts) (f : ℕ) (v w : ℤ) → IsReadNumber mode r p f v → IsReadNumber mode r p f w → v ≡ w
read_unique mode r p f v w g h = g.value ∙ ap (signed p.sign) (rounded_unique mode (is_minus p.sign) ((magnitude r p).num * 2 ^ f) (magnitude r p).den g.ulps h.ulps (magnitude_pos r p) g.rounded h.rounded) ∙ sym h.value

pub read_number_is_the_one : ReadNumberIsTheOne
read_number_is_the_one mode r p f =
    let found = rounded_exists mode (is_minus p.sign) ((magnitude r p).num * 2 ^ f) (magnitude r p).den (magnitude_pos r p) in
    let read : IsReadNumber mode r p f (signed p.sign found.0) = record { ulps = found.0; rounded = found.1; value = refl } in
    (signed p.sign found.0, read, λ w h. read_unique mode r p f w (signed p.sign found.0) h read)

-- ---- the cases of a result
pub if_ok : {T E : Type 0} (P Q : T → Type 0) (r : Result T E) → ((x : T) → P x → Q x) → IfOk r P → IfOk r Q
if_ok P Q (Ok x) f h = f x h
if_ok P Q (Err e) f h = h

pub overflow_if : {T E : Type 0} (overflow : E) (Out : Type 0) (r : Result T E) → (IsOk r → Out → ⊥) → IfErr r (λ kind. kind ≡ overflow) → Out → r ≡ Err overflow
overflow_if overflow Out (Ok x) never h o = absurd (never refl o)
overflow_if overflow Out (Err e) never h o = ap Err h

pub cause_if : {T E : Type 0} (overflow : E) (Cause : E → Type 0) (Out : Type 0) (r : Result T E) → ((IsOk r → ⊥) → Out) → IfErr r (λ kind. kind ≡ overflow) → IfErr r (λ kind. Cause kind ⊎ ((kind ≡ overflow) × Out))
cause_if overflow Cause Out (Ok x) f h = h
cause_if overflow Cause Out (Err e) f h = inr (h, f (λ t. absurd (cc)))

-- the answer of one reader, restated for another
pub read_as : {A B : Type 0} (r : Radix) (bs : List ℕ) (P : Parts → A → Type 0) (Q : Parts → B → Type 0) (x : A) (y : B) → IsReadOrRefused r bs P (Ok x) → ((p : Parts) → P p x → Q p y) → IsReadOrRefused r bs Q (Ok y)
read_as r bs P Q x y h more = record { numeral = h.numeral; read = λ p g. more p (h.read p g); cause = h.cause }

-- ---- a reading in range or out of range
module _ (mode : ReadMode) (r : Radix) (Has : Parts → Type 0) (f : ℕ) (sign : Bool) (n : ℕ) (found : ReadNumber) (frac : found.format.frac ≡ f)
    (reading : (p : Parts) → Has p → IsReading mode r p found) where
  read_at : (p : Parts) (h : Has p) → IsReadNumber mode r p f (reading p h).number
  read_at p h = rw frac at (reading p h).read

  pub range_iff : (ok : Type 0) → ((p : Parts) × Has p) → ((v : ℤ) → IsNumber (number_in found) v → ok ↔ IsInRange sign n v) → ok ↔ IsReadInRange mode r Has f sign n
  range_iff ok (p, h) test = (
    λ t. record { parts = p; has = h; number = (reading p h).number; read = read_at p h; in_range = (test (reading p h).number (reading p h).holds).0 t },
    λ i. (test (reading i.parts i.has).number (reading i.parts i.has).holds).1 (rw (read_unique mode r i.parts f i.number (reading i.parts i.has).number i.read (read_at i.parts i.has)) at i.in_range),
  )

  pub out_is : ((p : Parts) × Has p) → ((v : ℤ) → IsNumber (number_in found) v → IsInRange sign n v → ⊥) → IsReadOutOfRange mode r Has f sign n
  out_is (p, h) test = record { parts = p; has = h; number = (reading p h).number; read = read_at p h; out_of_range = ⊎_elim (λ i. absurd (test (reading p h).number (reading p h).holds i)) (λ o. o) (range_decided sign n (reading p h).number).0 }

  pub not_out : ((v : ℤ) → IsNumber (number_in found) v → IsInRange sign n v) → IsReadOutOfRange mode r Has f sign n → ⊥
  not_out test o = (range_decided sign n o.number).1 o.out_of_range (rw (read_unique mode r o.parts f (reading o.parts o.has).number o.number (read_at o.parts o.has) o.read) at (test (reading o.parts o.has).number (reading o.parts o.has).holds))

  pub number_is : (c : ℤ) → ((v : ℤ) → IsNumber (number_in found) v → c ≡ v) → (p : Parts) → Has p → IsReadNumber mode r p f c
  number_is c same p h = rw (same (reading p h).number (reading p h).holds) (read_at p h)

-- ---- the reading of a numeral
pub base_some : (r : Radix) → 0 < base r
base_some Bin = omega arith
base_some r = omega arith

-- a numeral reads as the rounded value of any fraction that equals its magnitude
pub reading_from : (mode : ReadMode) (r : Radix) (p : Parts) (number : Fraction) (ulps : Ulps) (found : ReadNumber) → found.negative ≡ is_minus p.sign → 0 < number.den → IsSameNumber number (magnitude r p) → IsMagnitude (magnitude_mode mode found.negative) number found.format.frac ulps → found.low ≡ ulps.low → found.has_high_bits ≡ ulps.has_high_bits → found.exact ≡ ulps.is_exact → IsReading mode r p found
reading_from mode r p number ulps found sign some same mag low high exact =
    let own = magnitude_same (magnitude_mode mode found.negative) number (magnitude r p) found.format.frac ulps some (magnitude_pos r p) same mag in
    let rounded = magnitude_rounded mode found.negative _ _ _ own.to in
    record {
      number = with_sign found.negative (own.high * 2 ^ 64 + ulps.low);
      read = record { ulps = own.high * 2 ^ 64 + ulps.low; rounded = subst (λ s. IsRounded mode s ((magnitude r p).num * 2 ^ found.format.frac) (magnitude r p).den (own.high * 2 ^ 64 + ulps.low)) sign rounded; value = ap (λ s. with_sign s (own.high * 2 ^ 64 + ulps.low)) sign };
      holds = record { high = own.high; value = rw low refl; over = rw high own.over };
      sign = sign;
      exact = rw exact own.exact;
    }

-- ---- the views of a scan
pub split_numeral : (r : Radix) (Has : Parts → Type 0) (negative : Bool) (w f : List ℕ) (shift : ℕ) → ((p : Parts) × Has p) → ((p : Parts) → Has p → IsScanned r p negative w f shift) → IsSplitNumeral r w f shift
split_numeral r Has negative w f shift (p, h) scanned =
    let s = scanned p h in
    record { whole_digits = s.whole_digits; leading = s.leading; fraction_digits = s.fraction_digits; trailing = s.trailing; small = s.small }

-- a literal reads by the numbers of its rest
pub literal_read : {T : Type 0} (Reads : Radix → Parts → T → Type 0) (short : Parts → Type 0) (s t : Bool) (bs : List ℕ) (r : Radix) (o : Option T) → s ≡ t → r ≡ literal_radix s bs → ((p : Parts) → HasLiteral s bs p → short p) → IfSome o (λ n. (p : Parts) → short p → Reads r p n) → IfSome o (λ n. (p : Parts) → HasLiteral t bs p → Reads (literal_radix t bs) p n)
literal_read Reads short s t bs r None e radix parts h = h
literal_read Reads short s t bs r (Some x) e radix parts h = λ p is. subst (λ q. Reads q p x) (radix ∙ ap (λ b. literal_radix b bs) e) (h p (parts p (subst (λ b. HasLiteral b bs p) (sym e) is)))
