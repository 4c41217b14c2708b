-- Each call has one end: what C passes determines what C has afterwards and the code.
use Rattle.std.specs.Prelude.{◌≡◌, ℕ, ℤ, List, FitsSigned}
use Rattle.std.specs.Int.{w64}
use Rattle.fixed_bits.specs.Formats.{FormatParts}
use Rattle.fixed_c.specs.Answer.{IsAnswered}
use Rattle.fixed_c.specs.Arguments.{Names}
use Rattle.fixed_c.specs.Codes.{IsMessage}
use Rattle.fixed_c.specs.Convert.{CompareIsRefused, ConvertInIsRefused, ConvertIsRefused, IsCompared, IsConverted}
use Rattle.fixed_c.specs.Convert.{IsConvertedIn, IsPrinted, IsPrintedTo, PlacesIsRefused, PrintIsRefused}
use Rattle.fixed_c.specs.Enclose.{EncloseIsRefused, IsEnclosedBy}
use Rattle.fixed_c.specs.Literal.{IsLiteralReadAs, LiteralIsRefused}
use Rattle.fixed_c.specs.Outcome.{EndsWith, Never}
use Rattle.fixed_c.specs.Read.{IsReadAs, ReadIsRefused}
use Rattle.fixed_c.specs.Respell.{IsReachedAs, RespellIsRefused}
use Rattle.fixed_c.specs.Round.{IsRoundedTo, RoundIsRefused}
use Rattle.fixed_c.specs.Scan.{IsLeadingIn, ScanIsRefused}
use Rattle.fixed_c.specs.Style.{IsPrintedIn, StyledIsRefused}
use Rattle.fixed_c.specs.Texts.{TextEnds}
use Rattle.fixed_c.specs.declared.number.FixedEnclosure.{FixedEnclosure}
use Rattle.fixed_c.specs.declared.number.FixedNumber.{FixedNumber}
use Rattle.fixed_c.specs.declared.refusal.Refusal.{Refusal}
use Rattle.fixed_c.specs.declared.style.FixedStyle.{FixedStyle}

-- two ends of a call are the same; `InC` says that what C has is of 64 bits
abbrev pub EndIsTheOne : {T : Type 0} → (T → Type 0) → (T → Type 0) → (Refusal → Type 0) → Type 0
EndIsTheOne {T = T} InC Right Refused = (old a b : T) (code other : ℕ) → InC a → InC b
    → EndsWith Right Refused old a code → EndsWith Right Refused old b other → (code ≡ other) × (a ≡ b)

-- the same for a call that gives a text
abbrev pub TextIsTheOne : (List ℕ → Type 0) → (Refusal → Type 0) → Type 0
TextIsTheOne IsRight Refused = (old a b : List ℕ) (len m n : ℕ) (code other : ℕ)
    → TextEnds IsRight Refused old a len m code → TextEnds IsRight Refused old b len n other → (code ≡ other) × (a ≡ b)
    × (m ≡ n)

abbrev pub NumberInC : FixedNumber → Type 0
NumberInC n = FitsSigned w64 n.bits

abbrev pub EnclosureInC : FixedEnclosure → Type 0
EnclosureInC ends = FitsSigned w64 ends.lo × FitsSigned w64 ends.hi

abbrev pub ReadEndsOnce : Type 0
ReadEndsOnce = (text : List ℕ) (radix : ℕ) (f : FormatParts) (policy mode : ℕ)
    → EndIsTheOne NumberInC (λ n. Names radix policy mode (IsReadAs text f n.bits n.overflowed))
    (ReadIsRefused text radix f policy mode)

abbrev pub RespellEndsOnce : Type 0
RespellEndsOnce = (text : List ℕ) (radix : ℕ) (f g : FormatParts) (policy mode : ℕ)
    → EndIsTheOne NumberInC (λ n. Names radix policy mode (IsReachedAs text f g n.bits n.overflowed))
    (RespellIsRefused text radix f g policy mode)

abbrev pub EncloseEndsOnce : Type 0
EncloseEndsOnce = (text : List ℕ) (radix : ℕ) (f : FormatParts)
    → EndIsTheOne EnclosureInC (λ ends. IsEnclosedBy text radix f ends.lo ends.hi) (EncloseIsRefused text radix f)

abbrev pub ConvertEndsOnce : Type 0
ConvertEndsOnce = (f g : FormatParts) (policy : ℕ) (bits : ℤ) → FitsSigned w64 bits
    → EndIsTheOne NumberInC (λ n. IsConverted f g policy bits n.bits n.overflowed) (ConvertIsRefused f g policy bits)

abbrev pub CompareEndsOnce : Type 0
CompareEndsOnce = (f g : FormatParts) (a b : ℤ) → FitsSigned w64 a → FitsSigned w64 b
    → EndIsTheOne (FitsSigned w64) (IsCompared f g a b) (CompareIsRefused f g a b)

abbrev pub PrintEndsOnce : Type 0
PrintEndsOnce = (f : FormatParts) (bits : ℤ) → FitsSigned w64 bits
    → TextIsTheOne (IsPrinted f bits) (PrintIsRefused f bits)

abbrev pub MessageEndsOnce : Type 0
MessageEndsOnce = (code : ℕ) → TextIsTheOne (IsMessage code) Never

abbrev pub AnswerEndsOnce : Type 0
AnswerEndsOnce = (line old a b : List ℕ) (m n fault flag code other : ℕ) → IsAnswered line old a m fault code
    → IsAnswered line old b n flag other → (code ≡ other) × (a ≡ b) × (m ≡ n) × (fault ≡ flag)

abbrev pub PlacesEndsOnce : Type 0
PlacesEndsOnce = (f : FormatParts) (bits : ℤ) (places mode : ℕ) → FitsSigned w64 bits
    → TextIsTheOne (IsPrintedTo f bits places mode) (PlacesIsRefused f bits places mode)

abbrev pub RoundEndsOnce : Type 0
RoundEndsOnce = (f : FormatParts) (rounding policy : ℕ) (bits : ℤ) → FitsSigned w64 bits
    → EndIsTheOne NumberInC (λ n. IsRoundedTo f rounding policy bits n.bits n.overflowed)
    (RoundIsRefused f rounding policy bits)

abbrev pub ConvertInEndsOnce : Type 0
ConvertInEndsOnce = (f g : FormatParts) (policy mode : ℕ) (bits : ℤ) → FitsSigned w64 bits
    → EndIsTheOne NumberInC (λ n. IsConvertedIn f g policy mode bits n.bits n.overflowed)
    (ConvertInIsRefused f g policy mode bits)

abbrev pub LiteralEndsOnce : Type 0
LiteralEndsOnce = (text : List ℕ) (f : FormatParts) (policy : ℕ)
    → EndIsTheOne NumberInC (λ n. IsLiteralReadAs text f policy n.bits n.overflowed) (LiteralIsRefused text f policy)

abbrev pub StyledEndsOnce : Type 0
StyledEndsOnce = (f : FormatParts) (bits : ℤ) (style : FixedStyle) → FitsSigned w64 bits
    → TextIsTheOne (IsPrintedIn f bits style) (StyledIsRefused f bits style)

abbrev pub ScanEndsOnce : Type 0
ScanEndsOnce = (text : List ℕ) (radix : ℕ)
    → EndIsTheOne (λ count. Unit {0}) (IsLeadingIn text radix) (ScanIsRefused text radix)
