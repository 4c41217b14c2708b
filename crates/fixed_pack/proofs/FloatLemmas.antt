-- A float read into a word.
use Rattle.std.proofs.Common.{◌≡◌, ◌∙◌, ◌↔◌, ◌+◌, ◌*◌, ◌<◌, ◌^◌, ◌%◌, ℕ, ℤ, Bool, true, false, IsTrue, Result, Err, IsOk, ⊎_elim, refl, sym, ap, subst, arith}
use Rattle.std.proofs.lemmas.Bool.{false≢true}
use Rattle.std.proofs.lemmas.Int.{ints}
use Rattle.fixed_bits.proofs.Public.{images_agree, in_range_of, in_wide, policy_range_decided, width_most}
use Rattle.fixed_bits.specs.Formats.{FormatParts}
use Rattle.fixed_bits.specs.Images.{IsImage, IsInRangeBy, IsOutOfRangeBy}
use Rattle.fixed_bits.specs.Numbers.{IsNumber, with_sign}
use Rattle.fixed_bits.specs.Ranges.{IsInRange, IsOutOfRange, IsWide, IsWidth}
use Rattle.fixed_bits.specs.declared.format.Policy.{Policy}
use Rattle.fixed_bits.specs.declared.format.Policy.TheVariants.{Checked}
use Rattle.fixed_bits.specs.declared.number.Number.{Number}
use Rattle.fixed_float.specs.Floats.{IsFinite, IsFloatReading, IsReadFloat}
use Rattle.fixed_read.specs.Reading.{number_in}
use Rattle.fixed_read.specs.declared.read_number.ReadNumber.{ReadNumber}
use Rattle.fixed_command.specs.Hex.{word_of}
use Rattle.fixed_float.specs.Kept.{IsKept}
use Rattle.fixed_float.specs.Short.{IsShortReading}
use Rattle.fixed_float.specs.declared.short.ShortNumber.{ShortNumber}
use Rattle.fixed_pack.specs.Floats.{AreFloatBits, IsFloatNumber, Overflows}
use Rattle.fixed_pack.specs.declared.float_words.FloatWords.{FloatWords}

pub not_ok : {A B : Type 0} (r : Result A B) (e : B) → r ≡ Err e → IsOk r → ⊥
not_ok r e is ok = let none = rw is at ok in absurd (cc)

-- the bits of a single-precision float fit 32 bits
pub low_is : (bits : ℕ) → bits < 256 ^ 4 → bits % 2 ^ 32 ≡ bits
low_is bits few = omega (arith, few)

-- ---- a number in range, by its sign and magnitude
in_low : (negative : Bool) (high low : ℕ) (v : ℤ) → IsWide v → v ≡ with_sign negative (high * 2 ^ 64 + low) → v ≡ with_sign negative low
in_low true high low v wide e = let all : high * 2 ^ 64 + low ≡ low = omega (arith, ints, wide.low, e) in e ∙ ap (with_sign true) all
in_low false high low v wide e = let all : high * 2 ^ 64 + low ≡ low = omega (arith, ints, wide.high, e) in e ∙ ap (with_sign false) all

module _ (f : FormatParts) (number : Number) (width : IsWidth f.width) where
  pub low_is_all : (v : ℤ) → IsNumber number v → IsInRange f.signed f.width v → v ≡ with_sign number.negative number.low
  low_is_all v is range = in_low number.negative is.high number.low v (in_wide f.signed f.width v (width_most f.width width) range) is.value

  -- a number with these low bits exists; it is 2^64 larger if the flag tells of high bits
  some_number : (b : Bool) → number.has_high_bits ≡ b → (v : ℤ) × IsNumber number v
  some_number true e = (with_sign number.negative (1 * 2 ^ 64 + number.low), record { high = 1; value = refl; over = (λ t. omega arith, λ l. e) })
  some_number false e = (with_sign number.negative (0 * 2 ^ 64 + number.low), record { high = 0; value = refl; over = (λ t. absurd (false≢true (sym e ∙ t)), λ l. absurd (omega (arith, l))) })

  pub low_in_range : (p : Policy) → ((v : ℤ) → IsNumber number v → IsInRangeBy p f.signed f.width v) → IsInRange f.signed f.width (with_sign number.negative number.low)
  low_in_range p range =
      let some = some_number number.has_high_bits refl in
      let in_range = in_range_of p f.signed f.width some.0 (range some.0 some.1) in
      subst (λ v. IsInRange f.signed f.width v) (low_is_all some.0 some.1 in_range) in_range

-- a number that is not out of the range that a policy leaves is in it
left_inside : (p : Policy) (s : Bool) (n : ℕ) (v : ℤ) (out : Bool) → out ≡ false → (IsTrue out ↔ IsOutOfRangeBy p s n v) → IsInRangeBy p s n v
left_inside p s n v out none test = ⊎_elim (λ i. i) (λ past. let t = test.1 past in absurd (cc)) (policy_range_decided p s n v).0

pub are_left : (p : Policy) (f g : FormatParts) (number : Number) (out : Bool) → g ≡ f → out ≡ false → ((v : ℤ) → IsNumber number v → IsTrue out ↔ IsOutOfRangeBy p g.signed g.width v) → (v : ℤ) → IsNumber number v → IsInRangeBy p f.signed f.width v
are_left p f g number out same none range v is = subst (λ (x : FormatParts). IsInRangeBy p x.signed x.width v) same (left_inside p g.signed g.width v out none (range v is))

-- ---- the image of a float
module _ (s : FloatWords) (float : ℕ) (found : ReadNumber) (is : IsFloatReading s.mode s.layout float found) (format : found.format ≡ s.format) (finite : IsFinite s.layout float) where
  read_is : IsReadFloat s.mode s.layout float s.format.frac is.number
  read_is = subst (λ (g : FormatParts). IsReadFloat s.mode s.layout float g.frac is.number) format is.read

  pub float_bits : (bits : ℤ) → ((v : ℤ) → IsNumber (number_in found) v → IsImage s.policy found.format.signed found.format.width v bits) → AreFloatBits s float bits
  float_bits bits images = record {
    finite = finite;
    number = is.number;
    read = read_is;
    image = subst (λ (g : FormatParts). IsImage s.policy g.signed g.width is.number bits) format (images is.number is.holds);
  }

  -- a number in the range that the policy leaves is its own image
  pub float_left : IsWidth s.format.width → ((v : ℤ) → IsNumber (number_in found) v → IsInRangeBy s.policy s.format.signed s.format.width v) → AreFloatBits s float (with_sign found.negative found.low)
  float_left width range = record {
    finite = finite;
    number = is.number;
    read = read_is;
    image = (images_agree s.policy s.format.signed s.format.width is.number (with_sign found.negative found.low) width (range is.number is.holds)).1 (sym (low_is_all s.format (number_in found) width is.number is.holds (in_range_of s.policy s.format.signed s.format.width is.number (range is.number is.holds))));
  }

  pub float_out : ((v : ℤ) → IsNumber (number_in found) v → (s.policy ≡ Checked) × IsOutOfRange found.format.signed found.format.width v) → Overflows s float
  float_out out =
      let why : (s.policy ≡ Checked) × IsOutOfRange s.format.signed s.format.width is.number = subst (λ (g : FormatParts). (s.policy ≡ Checked) × IsOutOfRange g.signed g.width is.number) format (out is.number is.holds) in
      record { finite = finite; number = is.number; read = read_is; checked = why.0; out = why.1 }

-- ---- a short number that every policy leaves as it is
pub kept_word : (s : FloatWords) (float word : ℕ) (number : ShortNumber) → IsShortReading s.mode s.layout float s.format.frac number → IsKept s.format number → word ≡ word_of s.format.width (with_sign number.negative number.magnitude) → IsFloatNumber s float word
kept_word s float word number reading kept word_is =
    let v = with_sign number.negative number.magnitude in
    record {
      bits = v;
      are = record { finite = reading.finite; number = v; read = reading.read; image = (images_agree s.policy s.format.signed s.format.width v v kept.format.is_width (kept.in_range s.policy)).1 refl };
      word_is = word_is;
    }
