-- A numeral reads as just one number, image or refusal.
use Rattle.std.proofs.Common.{◌≡◌, ◌↔◌, ◌+◌, ◌*◌, ◌^◌, ◌<◌, ℕ, zero, suc, ℤ, Bool, true, false, IsTrue, Ok, Err, unsigned_abs, refl, sym, ap, subst, ◌∙◌, arith}
use Rattle.fixed_bits.specs.Formats.{FormatParts}
use Rattle.fixed_bits.specs.Numbers.{IsNumber, with_sign}
use Rattle.fixed_bits.specs.Ranges.{IsOutOfRange}
use Rattle.fixed_bits.specs.declared.format.Policy.TheVariants.{Wrapping}
use Rattle.fixed_bits.specs.declared.number.Number.{Number}
use Rattle.fixed_bits.proofs.Public.{image_one, range_decided}
use Rattle.fixed_numeral.proofs.Public.{one_cause, parts_unique}
use Rattle.fixed_read.specs.Reading.{IsWholeUlps, number_in}
use Rattle.fixed_read.specs.declared.read_number.ReadNumber.{ReadNumber}
use Rattle.fixed_read.proofs.Public.{read_unique}
use Rattle.fixed_laws.specs.Readings.{ImageReadIsTheOne, OverflowingReadIsTheOne, ReadAnswerIsTheOne, ReadRangeIsDecided, ReadingIsTheOne}

same_flag : (a b : Bool) (P : Type 0) → (IsTrue a ↔ P) → (IsTrue b ↔ P) → a ≡ b
same_flag true true P f g = refl
same_flag true false P f g = sym (g.1 (f.0 refl))
same_flag false true P f g = f.1 (g.0 refl)
same_flag false false P f g = refl

-- ---- a number is determined by its sign, its low part and its flag of high bits
size : (negative : Bool) (m : ℕ) → unsigned_abs (with_sign negative m) ≡ m
size false m = refl
size true zero = refl
size true (suc m) = refl

number_made : (a b : Number) → a.negative ≡ b.negative → a.low ≡ b.low → a.has_high_bits ≡ b.has_high_bits → a ≡ b
number_made a b p q r =
    let made : Bool → ℕ → Bool → Number = λ x y z. record { negative = x; low = y; has_high_bits = z } in
    ap (λ x. made x a.low a.has_high_bits) p ∙ ap (λ y. made b.negative y a.has_high_bits) q ∙ ap (λ z. made b.negative b.low z) r

number_one : (a b : Number) (v : ℤ) → a.low < 2 ^ 64 → b.low < 2 ^ 64 → a.negative ≡ b.negative → IsNumber a v → IsNumber b v → a ≡ b
number_one a b v few few' sign x y =
    let sizes : x.high * 2 ^ 64 + a.low ≡ y.high * 2 ^ 64 + b.low =
    sym (size a.negative (x.high * 2 ^ 64 + a.low)) ∙ ap unsigned_abs (sym x.value ∙ y.value)
    ∙ size b.negative (y.high * 2 ^ 64 + b.low) in
    let low : a.low ≡ b.low = omega arith in
    let high : x.high ≡ y.high = omega arith in
    number_made a b sign low (same_flag a.has_high_bits b.has_high_bits (0 < y.high) (subst (λ (h : ℕ). IsTrue a.has_high_bits ↔ (0 < h)) high x.over) y.over)

found_made : (a b : ReadNumber) → number_in a ≡ number_in b → a.format ≡ b.format → a.exact ≡ b.exact → a ≡ b
found_made a b p q r =
    let made : Number → FormatParts → Bool → ReadNumber = λ x y z. record { low = x.low; negative = x.negative; has_high_bits = x.has_high_bits; format = y; exact = z } in
    ap (λ x. made x a.format a.exact) p ∙ ap (λ y. made (number_in b) y a.exact) q ∙ ap (λ z. made (number_in b) b.format z) r

pub reading_one : ReadingIsTheOne
reading_one mode r p f a b in_a in_b x y =
    let format : a.format ≡ b.format = in_a.0 ∙ sym in_b.0 in
    let frac : a.format.frac ≡ b.format.frac = ap (λ g. g.frac) format in
    let value : x.number ≡ y.number = read_unique mode r p b.format.frac x.number y.number (rw frac at x.read) y.read in
    let number : number_in a ≡ number_in b = number_one (number_in a) (number_in b) y.number in_a.1 in_b.1 (x.sign ∙ sym y.sign) (rw value at x.holds) y.holds in
    let exact : a.exact ≡ b.exact = same_flag a.exact b.exact (IsWholeUlps r p b.format.frac) (rw frac at x.exact) y.exact in
    found_made a b number format exact

-- ---- readings of bytes
pub read_answer_one : ReadAnswerIsTheOne
read_answer_one mode r bytes f (Ok a) (Ok b) in_a in_b x y =
    let has = x.numeral.0 refl in
    let same : a ≡ b = reading_one mode r has.0 f a b in_a in_b (x.read has.0 has.1) (y.read has.0 has.1) in
    ap Ok same
read_answer_one mode r bytes f (Ok a) (Err l) in_a in_b x y = absurd (y.cause.none (x.numeral.0 refl))
read_answer_one mode r bytes f (Err k) (Ok b) in_a in_b x y = absurd (x.cause.none (y.numeral.0 refl))
read_answer_one mode r bytes f (Err k) (Err l) in_a in_b x y = let same : k ≡ l = one_cause r bytes k l x.cause y.cause in ap Err same

pub image_read_one : ImageReadIsTheOne
image_read_one policy mode r p f sign n b c width x y =
    let value : x.number ≡ y.number = read_unique mode r p f x.number y.number x.read y.read in
    image_one policy sign n y.number b c width (rw value at x.image) y.image

pub overflowing_read_one : OverflowingReadIsTheOne
overflowing_read_one mode r p f sign n b c o u width x y =
    let value : x.number ≡ y.number = read_unique mode r p f x.number y.number x.read y.read in
    (image_one Wrapping sign n y.number b c width (rw value at x.image) y.image, same_flag o u (IsOutOfRange sign n y.number) (rw value at x.flag) y.flag)

pub read_range_decided : ReadRangeIsDecided
read_range_decided mode r bytes f sign n x y =
    let parts : x.parts ≡ y.parts = parts_unique r bytes x.parts y.parts x.has.beginning y.has.beginning in
    let value : x.number ≡ y.number = read_unique mode r y.parts f x.number y.number (rw parts at x.read) y.read in
    (range_decided sign n y.number).1 y.out_of_range (rw value at x.in_range)
