-- Each reading call has one answer.
use Rattle.std.proofs.Common.{◌≡◌, ◌⊎◌, ◌↔◌, ℤ, Bool, true, false, IsTrue, Ok, Err, inl, inr, refl, sym, subst, ◌∙◌}
use Rattle.std.proofs.lemmas.Bool.{false≢true}
use Rattle.fixed_bits.specs.Ranges.{IsOutOfRange}
use Rattle.fixed_bits.specs.Images.{IsImage, IsWrapped}
use Rattle.fixed_bits.specs.declared.format.Policy.TheVariants.{Wrapping}
use Rattle.fixed_bits.specs.declared.mode.ReadMode.TheVariants.{NearestEven}
use Rattle.fixed_bits.proofs.Public.{image_one}
use Rattle.fixed_numeral.specs.Cause.{HasCause}
use Rattle.fixed_numeral.specs.Literal.{HasLiteral, HasLiteralCause, literal_radix}
use Rattle.fixed_numeral.specs.Numeral.{HasNumeral, IsNumeral}
use Rattle.fixed_numeral.specs.declared.error.ParseErrorKind.{ParseErrorKind}
use Rattle.fixed_numeral.specs.declared.error.ParseErrorKind.TheVariants.{Overflow}
use Rattle.fixed_numeral.proofs.Public.{one_cause, one_literal_cause}
use Rattle.fixed_read.specs.Reading.{IsReadOutOfRange}
use Rattle.fixed_read.proofs.Public.{read_unique}
use Rattle.fixed_point.specs.ReadingLaws.{ImageReadingIsTheOne, LiteralReadingIsTheOne, OverflowingReadingIsTheOne, PlainReadingIsTheOne, RefusingIsTheOne}

same_flag : (a b : Bool) (P : Type 0) → (IsTrue a ↔ P) → (IsTrue b ↔ P) → a ≡ b
same_flag true true P f g = refl
same_flag true false P f g = sym (g.1 (f.0 refl))
same_flag false true P f g = f.1 (g.0 refl)
same_flag false false P f g = refl

-- two kinds are equal if each is that of the cause or, without a cause, Overflow
kinds : (Cause : ParseErrorKind → Type 0) (Out : Type 0) → ((k l : ParseErrorKind) → Cause k → Cause l → k ≡ l) → ((k : ParseErrorKind) → Cause k → Out → ⊥)
    → (k l : ParseErrorKind) → Cause k ⊎ ((k ≡ Overflow) × Out) → Cause l ⊎ ((l ≡ Overflow) × Out) → k ≡ l
kinds Cause Out one none k l (inl c) (inl d) = one k l c d
kinds Cause Out one none k l (inl c) (inr d) = absurd (none k c d.1)
kinds Cause Out one none k l (inr c) (inl d) = absurd (none l d c.1)
kinds Cause Out one none k l (inr c) (inr d) = c.0 ∙ sym d.0

pub plain_one : {A : Type 0} (number : A → ℤ) → PlainReadingIsTheOne number
plain_one number mode r bs f sign n (Ok x) (Ok y) a b =
    let some = a.fits.0 refl in
    read_unique mode r some.parts f (number x) (number y) (a.read some.parts some.has) (b.read some.parts some.has)
plain_one number mode r bs f sign n (Ok x) (Err l) a b = absurd (false≢true (b.fits.1 (a.fits.0 refl)))
plain_one number mode r bs f sign n (Err k) (Ok y) a b = absurd (false≢true (a.fits.1 (b.fits.0 refl)))
plain_one number mode r bs f sign n (Err k) (Err l) a b =
    kinds (HasCause r bs) (IsReadOutOfRange mode r (HasNumeral r bs) f sign n) (one_cause r bs) (λ kind c o. c.none (o.parts, o.has)) k l a.cause b.cause

pub image_one_reading : {A : Type 0} (number : A → ℤ) → ImageReadingIsTheOne number
image_one_reading number policy mode r bs f sign n (Ok x) (Ok y) width a b =
    let has = a.numeral.0 refl in
    let i = a.read has.0 has.1 in
    let j = b.read has.0 has.1 in
    let value : i.number ≡ j.number = read_unique mode r has.0 f i.number j.number i.read j.read in
    image_one policy sign n j.number (number x) (number y) width (subst (λ (v : ℤ). IsImage policy sign n v (number x)) value i.image) j.image
image_one_reading number policy mode r bs f sign n (Ok x) (Err l) width a b = absurd (b.cause.none (a.numeral.0 refl))
image_one_reading number policy mode r bs f sign n (Err k) (Ok y) width a b = absurd (a.cause.none (b.numeral.0 refl))
image_one_reading number policy mode r bs f sign n (Err k) (Err l) width a b = one_cause r bs k l a.cause b.cause

pub overflowing_one : {A : Type 0} (number : A → ℤ) → OverflowingReadingIsTheOne number
overflowing_one number mode r bs f sign n (Ok x) (Ok y) width a b =
    let has = a.numeral.0 refl in
    let i = a.read has.0 has.1 in
    let j = b.read has.0 has.1 in
    let value : i.number ≡ j.number = read_unique mode r has.0 f i.number j.number i.read j.read in
    let same : number x.0 ≡ number y.0 = image_one Wrapping sign n j.number (number x.0) (number y.0) width (subst (λ (v : ℤ). IsWrapped sign n v (number x.0)) value i.image) j.image in
    (same, same_flag x.1 y.1 (IsOutOfRange sign n j.number) (subst (λ (v : ℤ). IsTrue x.1 ↔ IsOutOfRange sign n v) value i.flag) j.flag)
overflowing_one number mode r bs f sign n (Ok x) (Err l) width a b = absurd (b.cause.none (a.numeral.0 refl))
overflowing_one number mode r bs f sign n (Err k) (Ok y) width a b = absurd (a.cause.none (b.numeral.0 refl))
overflowing_one number mode r bs f sign n (Err k) (Err l) width a b = one_cause r bs k l a.cause b.cause

pub refusing_one : {A : Type 0} (number : A → ℤ) → RefusingIsTheOne number
refusing_one number r bs (Ok x) b p q = absurd (false≢true p.refuses)
refusing_one number r bs (Err k) (Ok y) p q = absurd (false≢true q.refuses)
refusing_one number r bs (Err k) (Err l) p q = kinds (HasCause r bs) (IsNumeral r bs) (one_cause r bs) (λ kind c o. c.none o) k l p.cause q.cause

pub literal_one : {A : Type 0} (number : A → ℤ) → LiteralReadingIsTheOne number
literal_one number bs f sign n (Ok x) (Ok y) a b =
    let some = a.fits.0 refl in
    read_unique NearestEven (literal_radix sign bs) some.parts f (number x) (number y) (a.read some.parts some.has) (b.read some.parts some.has)
literal_one number bs f sign n (Ok x) (Err l) a b = absurd (false≢true (b.fits.1 (a.fits.0 refl)))
literal_one number bs f sign n (Err k) (Ok y) a b = absurd (false≢true (a.fits.1 (b.fits.0 refl)))
literal_one number bs f sign n (Err k) (Err l) a b =
    kinds (HasLiteralCause sign bs) (IsReadOutOfRange NearestEven (literal_radix sign bs) (HasLiteral sign bs) f sign n)
    (λ i j c d. (one_literal_cause sign bs i j c).0 d) (λ kind c o. (one_literal_cause sign bs kind kind c).1 (o.parts, o.has)) k l a.cause b.cause
