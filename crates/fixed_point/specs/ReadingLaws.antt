-- Each reading call has one answer.
use Rattle.std.specs.Prelude.{◌≡◌, ℕ, List, Bool, ℤ, Result, Ok, Err}
use Rattle.fixed_bits.specs.Ranges.{IsWidth}
use Rattle.fixed_bits.specs.declared.format.Policy.{Policy}
use Rattle.fixed_bits.specs.declared.mode.ReadMode.{ReadMode}
use Rattle.fixed_numeral.specs.declared.error.ParseErrorKind.{ParseErrorKind}
use Rattle.fixed_numeral.specs.declared.radix.Radix.{Radix}
use Rattle.fixed_point.specs.Readings.{IsImageReading, IsLiteralReading, IsOverflowingReading, IsPlainReading}
use Rattle.fixed_point.specs.Readings.{IsRefusing}

-- two answers are the same: both Ok with values that `Same` relates, or both Err of the same kind
abbrev pub AreSame : {A : Type 0} → (A → A → Type 0) → Result A ParseErrorKind → Result A ParseErrorKind → Type 0
AreSame Same (Ok x) (Ok y) = Same x y
AreSame Same (Ok x) (Err l) = ⊥
AreSame Same (Err k) (Ok y) = ⊥
AreSame Same (Err k) (Err l) = k ≡ l

abbrev pub HaveOneNumber : {A : Type 0} → (A → ℤ) → A → A → Type 0
HaveOneNumber number x y = number x ≡ number y

abbrev pub HaveOneVerdict : {A : Type 0} → (A → ℤ) → A × Bool → A × Bool → Type 0
HaveOneVerdict number x y = (number x.0 ≡ number y.0) × (x.1 ≡ y.1)

-- each reading call has one answer
abbrev pub PlainReadingIsTheOne : {A : Type 0} → (A → ℤ) → Type 0
PlainReadingIsTheOne {A = A} number = (mode : ReadMode) (r : Radix) (bs : List ℕ) (f : ℕ) (sign : Bool) (n : ℕ)
    (a b : Result A ParseErrorKind) → IsPlainReading number mode r bs f sign n a
    → IsPlainReading number mode r bs f sign n b → AreSame (HaveOneNumber number) a b

abbrev pub ImageReadingIsTheOne : {A : Type 0} → (A → ℤ) → Type 0
ImageReadingIsTheOne {A = A} number = (policy : Policy) (mode : ReadMode) (r : Radix) (bs : List ℕ) (f : ℕ)
    (sign : Bool) (n : ℕ) (a b : Result A ParseErrorKind) → IsWidth n
    → IsImageReading number policy mode r bs f sign n a → IsImageReading number policy mode r bs f sign n b
    → AreSame (HaveOneNumber number) a b

abbrev pub OverflowingReadingIsTheOne : {A : Type 0} → (A → ℤ) → Type 0
OverflowingReadingIsTheOne {A = A} number = (mode : ReadMode) (r : Radix) (bs : List ℕ) (f : ℕ) (sign : Bool) (n : ℕ)
    (a b : Result (A × Bool) ParseErrorKind) → IsWidth n → IsOverflowingReading number mode r bs f sign n a
    → IsOverflowingReading number mode r bs f sign n b → AreSame (HaveOneVerdict number) a b

abbrev pub RefusingIsTheOne : {A : Type 0} → (A → ℤ) → Type 0
RefusingIsTheOne {A = A} number = (r : Radix) (bs : List ℕ) (a b : Result A ParseErrorKind) → IsRefusing r bs a
    → IsRefusing r bs b → AreSame (HaveOneNumber number) a b

abbrev pub LiteralReadingIsTheOne : {A : Type 0} → (A → ℤ) → Type 0
LiteralReadingIsTheOne {A = A} number = (bs : List ℕ) (f : ℕ) (sign : Bool) (n : ℕ) (a b : Result A ParseErrorKind)
    → IsLiteralReading number bs f sign n a → IsLiteralReading number bs f sign n b
    → AreSame (HaveOneNumber number) a b
