-- The result of a reader of numerals.
use Rattle.std.specs.Prelude.{List, ℕ, ◌↔◌, Result, IsOk, IfOk, IfErr}
use Rattle.fixed_numeral.specs.declared.radix.Radix.{Radix}
use Rattle.fixed_numeral.specs.declared.error.ParseErrorKind.{ParseErrorKind}
use Rattle.fixed_numeral.specs.Cause.{HasCause}
use Rattle.fixed_numeral.specs.Numeral.{Parts, HasNumeral, IsNumeral}

-- Ok exactly if bs is a numeral, with a value that is right for its parts; else Err of the kind that says why it is not
pub record IsReadOrRefused {A : Type 0} (r : Radix) (bs : List ℕ) (IsRight : Parts → A → Type 0)
    (answer : Result A ParseErrorKind) : Type 0 where
  pub numeral : IsOk answer ↔ IsNumeral r bs
  pub read : IfOk answer (λ x. (p : Parts) → HasNumeral r bs p → IsRight p x)
  pub cause : IfErr answer (λ kind. HasCause r bs kind)
