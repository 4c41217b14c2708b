-- The power of two in a numeral of radix 2, 8 or 16, from the bits of a digit, the places and the exponent.
use Rattle.std.specs.Prelude.{ℕ, suc, ◌+◌, ◌*◌, Bool, true, false, ℤ, pos, negsuc, ◌-ℤ◌}

-- z if it is not negative, else 0
abbrev pub up_of : ℤ → ℕ
up_of (pos x) = x
up_of (negsuc x) = 0

-- -z if z is negative, else 0
abbrev pub down_of : ℤ → ℕ
down_of (pos x) = 0
down_of (negsuc x) = suc x

-- the number that all digits spell is multiplied by two to the power `ups` and divided by two to the power `downs`
abbrev pub ups : ℕ → ℕ → ℤ → Bool → ℕ
ups bits places exponent true = up_of exponent
ups bits places exponent false = bits * up_of (exponent -ℤ pos places)

abbrev pub downs : ℕ → ℕ → ℤ → Bool → ℕ
downs bits places exponent true = bits * places + down_of exponent
downs bits places exponent false = bits * down_of (exponent -ℤ pos places)
