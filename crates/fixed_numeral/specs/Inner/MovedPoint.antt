-- Where the point moves to, for the functions that move it.
use Rattle.std.specs.Prelude.{◌≡◌, ℕ, ◌*◌, ◌+◌, ◌<◌, ◌^◌, length, List, ◌++◌}
use Rattle.std.specs.Int.Digits.{number_from_digits, AllBelowBase}
use Rattle.fixed_numeral.specs.Value.{Fraction}
use Rattle.fixed_numeral.specs.Spelled.{spelled, IsSameNumber}
use Rattle.fixed_numeral.specs.Digits.{zeros}
use Rattle.fixed_numeral.specs.Place.{NoLeadingZero, NoTrailingZero}

-- rest is ds without its leading zeros
pub record IsWithoutLeading (ds rest : List ℕ) : Type 0 where
  pub count : ℕ
  pub split : ds ≡ zeros count ++ rest
  pub none : NoLeadingZero rest

-- rest is ds without its trailing zeros
pub record IsWithoutTrailing (ds rest : List ℕ) : Type 0 where
  pub count : ℕ
  pub split : ds ≡ rest ++ zeros count
  pub none : NoTrailingZero rest

-- the digits before and after the point, as one whole number, times b to the power u - d
abbrev pub moved : ℕ → List ℕ → List ℕ → ℕ → ℕ → Fraction
moved b whole fraction u d = record { num = number_from_digits b (whole ++ fraction) * b ^ u; den = b ^ d }

-- the digits W before the point and F after it are those of w and r with the point moved `up` digits to the right and
-- `down` digits to the left
pub record IsPlaced (w r W F : List ℕ) (up down : ℕ) : Type 0 where
  pub leading : NoLeadingZero W
  pub trailing : NoTrailingZero F
  pub value : (b u d : ℕ) → u + (length r + down) ≡ d + up → IsSameNumber (spelled b W F 0) (moved b w r u d)
  pub below : (b : ℕ) → 0 < b → AllBelowBase b w → AllBelowBase b r → AllBelowBase b W × AllBelowBase b F
