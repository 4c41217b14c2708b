-- Laws of the bits that are reached from a numeral.
use Rattle.std.specs.Prelude.{◌≡◌, List, ℕ, ℤ, Bool}
use Rattle.fixed_bits.specs.Formats.{FormatParts, IsFormat}
use Rattle.fixed_bits.specs.declared.format.Policy.{Policy}
use Rattle.fixed_bits.specs.declared.mode.ReadMode.{ReadMode}
use Rattle.fixed_numeral.specs.Numeral.{Parts}
use Rattle.fixed_numeral.specs.declared.error.ParseErrorKind.{ParseErrorKind}
use Rattle.fixed_numeral.specs.declared.radix.Radix.{Radix}
use Rattle.fixed_respell.specs.Reached.{IsReached, IsOverflowed, IsRespelled, IsRefusal}

-- at most one pair of bits and a flag is reached from a numeral
abbrev pub ReachedIsTheOne : Type 0
ReachedIsTheOne = (mode : ReadMode) (r : Radix) (p : Parts) (policy : Policy) (source target : FormatParts) (b c : ℤ)
    (o u : Bool) → IsFormat source.width source.frac → IsFormat target.width target.frac
    → IsReached mode r p policy source target b o → IsReached mode r p policy source target c u → (b ≡ c) × (o ≡ u)

-- a numeral that overflows reaches no bits
abbrev pub OverflowedHasNone : Type 0
OverflowedHasNone = (mode : ReadMode) (r : Radix) (p : Parts) (policy : Policy) (source target : FormatParts) (b : ℤ)
    (o : Bool) → IsOverflowed mode r p policy source target → ¬ IsReached mode r p policy source target b o

-- bytes reach at most one pair of bits and a flag
abbrev pub RespelledIsTheOne : Type 0
RespelledIsTheOne = (mode : ReadMode) (r : Radix) (bytes : List ℕ) (policy : Policy) (source target : FormatParts)
    (b c : ℤ) (o u : Bool) → IsFormat source.width source.frac → IsFormat target.width target.frac
    → IsRespelled mode r bytes policy source target b o → IsRespelled mode r bytes policy source target c u → (b ≡ c)
    × (o ≡ u)

-- bytes that are refused reach no bits
abbrev pub RefusalHasNone : Type 0
RefusalHasNone = (mode : ReadMode) (r : Radix) (bytes : List ℕ) (policy : Policy) (source target : FormatParts)
    (kind : ParseErrorKind) (b : ℤ) (o : Bool) → IsRefusal mode r bytes policy source target kind
    → ¬ IsRespelled mode r bytes policy source target b o

-- bytes are refused for at most one kind
abbrev pub RefusalIsTheOne : Type 0
RefusalIsTheOne = (mode : ReadMode) (r : Radix) (bytes : List ℕ) (policy : Policy) (source target : FormatParts)
    (k l : ParseErrorKind) → IsRefusal mode r bytes policy source target k
    → IsRefusal mode r bytes policy source target l → k ≡ l
