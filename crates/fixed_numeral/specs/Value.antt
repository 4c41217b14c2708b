-- The value of a numeral.
use Rattle.std.specs.Prelude.{ℕ, suc, ◌*◌, ◌^◌, if◌then◌else◌, length, Option, Some, None, ℤ, pos, negsuc, ◌-ℤ◌}
use Rattle.std.specs.Str.Parse.{digits_value}
use Rattle.fixed_numeral.specs.declared.radix.Radix.{Radix}
use Rattle.fixed_numeral.specs.Numeral.{Parts, Exponent, base, is_two_separator, exponent_number, mantissa}
use Rattle.fixed_numeral.specs.Numeral.{fractional_digits}

-- a non-negative number, as a fraction
pub record Fraction : Type 0 where
  pub num : ℕ
  pub den : ℕ

-- m / d times b to the power x
abbrev pub scaled : ℕ → ℕ → ℕ → ℤ → Fraction
scaled m d b (pos x) = record { num = m * b ^ x; den = d }
scaled m d b (negsuc x) = record { num = m; den = d * b ^ suc x }

abbrev pub scaled_by : Radix → ℕ → ℕ → Option Exponent → Fraction
scaled_by r m s None = scaled m 1 (base r) (pos 0 -ℤ pos s)
scaled_by r m s (Some e) = if is_two_separator r e.separator
    then scaled m (base r ^ s) 2 (exponent_number e)
    else scaled m 1 (base r) (exponent_number e -ℤ pos s)

-- the magnitude of a numeral
abbrev pub magnitude : Radix → Parts → Fraction
magnitude r p = scaled_by r (digits_value (base r) (mantissa p)) (length (fractional_digits p.fraction)) p.exponent
