-- The number that two lists of digits spell, one before a point and one after it.
use Rattle.std.specs.Prelude.{◌≡◌, ℕ, ◌*◌, ◌^◌, List, ◌++◌, length}
use Rattle.std.specs.Int.Digits.{number_from_digits}
use Rattle.fixed_numeral.specs.Value.{Fraction}

-- whole.fraction in the base, times 2^shift
abbrev pub spelled : ℕ → List ℕ → List ℕ → ℕ → Fraction
spelled base whole fraction shift = record {
  num = number_from_digits base (whole ++ fraction) * 2 ^ shift;
  den = base ^ length fraction;
}

-- two fractions are the same number
abbrev pub IsSameNumber : Fraction → Fraction → Type 0
IsSameNumber a b = a.num * b.den ≡ b.num * a.den
