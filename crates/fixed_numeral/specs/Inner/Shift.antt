-- How an exponent moves the point, for the functions that move it.
use Rattle.std.specs.Prelude.{◌≡◌, ℕ, ◌+◌, ◌*◌, Bool, true, false, if◌then◌else◌, Option, Some, None}
use Rattle.std.specs.Str.Parse.{digits_value}
use Rattle.fixed_numeral.specs.declared.radix.Radix.{Radix}
use Rattle.fixed_numeral.specs.Numeral.{Exponent, is_minus, is_two_separator}
use Rattle.fixed_numeral.specs.Scanned.{exponent_unit}

-- the divisor of an exponent, which counts powers of two if `two`, else digits of the radix
abbrev pub unit_of : Radix → Bool → ℕ
unit_of r two = if two then exponent_unit r else 1

-- an exponent of this magnitude is `up` units plus `bits`, or `bits` minus `down` units if negative
abbrev pub IsShift : Bool → ℕ → ℕ → ℕ → ℕ → ℕ → Type 0
IsShift false unit magnitude up down bits = (up * unit + bits ≡ magnitude) × (down ≡ 0)
IsShift true unit magnitude up down bits = (down * unit ≡ magnitude + bits) × (up ≡ 0)

-- the flags and the magnitude are those of the exponent: false and 0 if there is none
abbrev pub AgreesWithExponent : Radix → Bool → Bool → ℕ → Option Exponent → Type 0
AgreesWithExponent r two minus magnitude None = (two ≡ false) × (minus ≡ false) × (magnitude ≡ 0)
AgreesWithExponent r two minus magnitude (Some e) = (two ≡ is_two_separator r e.separator) × (minus ≡ is_minus e.sign)
    × (magnitude ≡ digits_value 10 e.digits)
