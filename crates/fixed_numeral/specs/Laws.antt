-- Laws of numerals, literals and error messages.
use Rattle.std.specs.Prelude.{◌≡◌, ℕ, ◌≤◌, ◌⊎◌, Bool, List, ◌++◌, length}
use Rattle.fixed_numeral.specs.declared.radix.Radix.{Radix}
use Rattle.fixed_numeral.specs.declared.error.ParseErrorKind.{ParseErrorKind}
use Rattle.fixed_numeral.specs.Numeral.{Parts, HasParts, IsBeginning, IsNumeral}
use Rattle.fixed_numeral.specs.Value.{magnitude}
use Rattle.fixed_numeral.specs.Cause.{HasCause}
use Rattle.fixed_numeral.specs.Messages.{message_of}
use Rattle.fixed_numeral.specs.Literal.{HasLiteral, IsLiteral, HasLiteralCause}

-- the parts are determined by the bytes
abbrev pub PartsAreDetermined : Type 0
PartsAreDetermined = (r : Radix) (bs : List ℕ) (p q : Parts) → HasParts r bs p → HasParts r bs q → p ≡ q

-- each prefix of a beginning is a beginning
abbrev pub PrefixIsBeginning : Type 0
PrefixIsBeginning = (r : Radix) (xs ys : List ℕ) → IsBeginning r (xs ++ ys) → IsBeginning r xs

-- bytes are a numeral, or have a cause why they are not
abbrev pub NumeralOrCause : Type 0
NumeralOrCause = (r : Radix) (bs : List ℕ) → IsNumeral r bs ⊎ ((kind : ParseErrorKind) × HasCause r bs kind)

-- there is at most one cause
abbrev pub OneCause : Type 0
OneCause = (r : Radix) (bs : List ℕ) (kind other : ParseErrorKind) → HasCause r bs kind → HasCause r bs other
    → kind ≡ other

-- the denominator of a magnitude is at least 1
abbrev pub DenominatorIsPositive : Type 0
DenominatorIsPositive = (r : Radix) (p : Parts) → 1 ≤ (magnitude r p).den

-- the parts of a literal are determined by its bytes
abbrev pub LiteralIsDetermined : Type 0
LiteralIsDetermined = (of_signed : Bool) (bs : List ℕ) (p q : Parts) → HasLiteral of_signed bs p
    → HasLiteral of_signed bs q → p ≡ q

-- there is at most one cause why bytes are not a literal, and a literal has none
abbrev pub OneLiteralCause : Type 0
OneLiteralCause = (of_signed : Bool) (bs : List ℕ) (kind other : ParseErrorKind) → HasLiteralCause of_signed bs kind
    → (HasLiteralCause of_signed bs other → kind ≡ other) × (IsLiteral of_signed bs → ⊥)

-- a message has at most 64 bytes
abbrev pub MessageIsShort : Type 0
MessageIsShort = (kind : ParseErrorKind) → length (message_of kind) ≤ 64
