-- What the state of the scanner of literals says of the bytes read so far.
use Rattle.std.specs.Prelude.{◌≡◌, ℕ, ◌≤◌, true, List, [], ◌∷◌, ◌++◌, Some}
use Rattle.fixed_numeral.specs.declared.scanner.State.{State}
use Rattle.fixed_numeral.specs.declared.radix.Radix.{Radix}
use Rattle.fixed_numeral.specs.declared.error.ParseErrorKind.{ParseErrorKind}
use Rattle.fixed_numeral.specs.Numeral.{Parts}
use Rattle.fixed_numeral.specs.Literal.{HasLiteralParts, IsLiteralBeginning, literal_kind}
use Rattle.fixed_numeral.specs.Inner.Scan.{Agrees, max_magnitude}

-- bs cannot go on with the byte b, and kind says why
pub record LiteralCannotExtend (r : Radix) (bs : List ℕ) (p : Parts) (b : ℕ) (kind : ParseErrorKind) : Type 0 where
  pub none : IsLiteralBeginning r (bs ++ b ∷ []) → ⊥
  pub is_kind : kind ≡ literal_kind r p (Some b)

-- s is the state after the bytes bs of a literal's rest
pub record IsLiteralAfter (r : Radix) (bs : List ℕ) (s : State) : Type 0 where
  pub parts : Parts
  pub beginning : HasLiteralParts r bs parts
  pub agrees : Agrees r s parts
  pub room : s.magnitude ≤ max_magnitude true

-- bs can go on with the byte b, and next is the state after it
abbrev pub LiteralExtends : Radix → List ℕ → ℕ → State → Type 0
LiteralExtends r bs b next = IsLiteralAfter r (bs ++ b ∷ []) next
