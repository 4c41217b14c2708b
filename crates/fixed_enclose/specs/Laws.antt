-- Statements of this crate's laws.
use Rattle.std.specs.Prelude.{◌≡◌, ◌↔◌, ◌<◌, ℕ, List, ℤ, pos, ◌*ℤ◌, ◌≤ℤ◌, length, take}
use Rattle.fixed_bits.specs.Formats.{FormatParts}
use Rattle.fixed_numeral.specs.declared.error.ParseErrorKind.{ParseErrorKind}
use Rattle.fixed_numeral.specs.declared.radix.Radix.{Radix}
use Rattle.line_engine.specs.AnswerText.{AnswerText}
use Rattle.line_engine.specs.Lines.{kept_length}
use Rattle.fixed_enclose.specs.Answer.{IsAnswer}
use Rattle.fixed_enclose.specs.Enclosure.{Encloses, IsEnclosed, IsRefusal}

-- two whole numbers around a value are never tighter than its enclosure
abbrev pub NoneIsTighter : Type 0
NoneIsTighter = (y : ℤ) (den : ℕ) (lo hi a b : ℤ) → Encloses y den lo hi → (a *ℤ pos den) ≤ℤ y → y ≤ℤ (b *ℤ pos den)
    → (a ≤ℤ lo) × (hi ≤ℤ b)

-- the ends are equal exactly if the value is a whole number
abbrev pub ExactWhereEqual : Type 0
ExactWhereEqual = (y : ℤ) (den : ℕ) (lo hi : ℤ) → Encloses y den lo hi → (lo ≡ hi) ↔ (y ≡ lo *ℤ pos den)

-- bytes have at most one pair, and no refusal if they have one
abbrev pub PairIsTheOne : Type 0
PairIsTheOne = (r : Radix) (bytes : List ℕ) (format : FormatParts) (lo hi : ℤ) → IsEnclosed r bytes format lo hi
    → ((a b : ℤ) → IsEnclosed r bytes format a b → (lo ≡ a) × (hi ≡ b))
    × ((kind : ParseErrorKind) → ¬ IsRefusal r bytes format kind)

-- bytes are refused for at most one reason
abbrev pub RefusalIsTheOne : Type 0
RefusalIsTheOne = (r : Radix) (bytes : List ℕ) (format : FormatParts) (k l : ParseErrorKind)
    → IsRefusal r bytes format k → IsRefusal r bytes format l → k ≡ l

-- a line has at most one answer
abbrev pub AnswerIsTheOne : Type 0
AnswerIsTheOne = (line : List ℕ) (a b : AnswerText) → IsAnswer line a → IsAnswer line b → a ≡ b

-- a line longer than `kept_length` is answered like its first `kept_length` bytes
abbrev pub LongIsAnsweredByPrefix : Type 0
LongIsAnsweredByPrefix = (line : List ℕ) (answer : AnswerText) → kept_length < length line
    → IsAnswer (take kept_length line) answer ↔ IsAnswer line answer
