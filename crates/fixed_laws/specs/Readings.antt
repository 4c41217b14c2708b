-- A numeral has one reading.
use Rattle.std.specs.Prelude.{◌≡◌, ◌<◌, ◌^◌, ℕ, ℤ, Bool, List, Result, IfOk}
use Rattle.fixed_bits.specs.Formats.{FormatParts}
use Rattle.fixed_bits.specs.Ranges.{IsWidth}
use Rattle.fixed_bits.specs.declared.format.Policy.{Policy}
use Rattle.fixed_bits.specs.declared.mode.ReadMode.{ReadMode}
use Rattle.fixed_numeral.specs.Answer.{IsReadOrRefused}
use Rattle.fixed_numeral.specs.Numeral.{HasNumeral, Parts}
use Rattle.fixed_numeral.specs.declared.error.ParseErrorKind.{ParseErrorKind}
use Rattle.fixed_numeral.specs.declared.radix.Radix.{Radix}
use Rattle.fixed_read.specs.Reading.{IsImageRead, IsOverflowingRead, IsReadInRange, IsReadOutOfRange, IsReading}
use Rattle.fixed_read.specs.declared.read_number.ReadNumber.{ReadNumber}

-- a number read into this format; its low part has at most 64 bits
abbrev pub IsNumberIn : FormatParts → ReadNumber → Type 0
IsNumberIn f found = (found.format ≡ f) × (found.low < 2 ^ 64)

-- a numeral has one reading in a format for each mode
abbrev pub ReadingIsTheOne : Type 0
ReadingIsTheOne = (mode : ReadMode) (r : Radix) (p : Parts) (f : FormatParts) (a b : ReadNumber) → IsNumberIn f a
    → IsNumberIn f b → IsReading mode r p a → IsReading mode r p b → a ≡ b

-- bytes have one answer, a number or the kind of their cause
abbrev pub ReadAnswerIsTheOne : Type 0
ReadAnswerIsTheOne = (mode : ReadMode) (r : Radix) (bytes : List ℕ) (f : FormatParts)
    (a b : Result ReadNumber ParseErrorKind) → IfOk a (IsNumberIn f) → IfOk b (IsNumberIn f)
    → IsReadOrRefused r bytes (IsReading mode r) a → IsReadOrRefused r bytes (IsReading mode r) b → a ≡ b

-- the read number of a numeral has one image under a policy
abbrev pub ImageReadIsTheOne : Type 0
ImageReadIsTheOne = (policy : Policy) (mode : ReadMode) (r : Radix) (p : Parts) (f : ℕ) (sign : Bool) (n : ℕ)
    (b c : ℤ) → IsWidth n → IsImageRead policy mode r p f sign n b → IsImageRead policy mode r p f sign n c → b ≡ c

-- the read number of a numeral has one Wrapping image and one overflow flag
abbrev pub OverflowingReadIsTheOne : Type 0
OverflowingReadIsTheOne = (mode : ReadMode) (r : Radix) (p : Parts) (f : ℕ) (sign : Bool) (n : ℕ) (b c : ℤ)
    (o u : Bool) → IsWidth n → IsOverflowingRead mode r p f sign n b o → IsOverflowingRead mode r p f sign n c u
    → (b ≡ c) × (o ≡ u)

-- no bytes are read as both in range and out of range
abbrev pub ReadRangeIsDecided : Type 0
ReadRangeIsDecided = (mode : ReadMode) (r : Radix) (bytes : List ℕ) (f : ℕ) (sign : Bool) (n : ℕ)
    → IsReadInRange mode r (HasNumeral r bytes) f sign n → ¬ IsReadOutOfRange mode r (HasNumeral r bytes) f sign n
