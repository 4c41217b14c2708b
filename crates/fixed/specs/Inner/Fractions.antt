-- The digits after the point of a decimal fraction.
use Rattle.std.specs.Prelude.{◌≡◌, ℕ, false, List, length}
use Rattle.std.specs.Str.Parse.{AllDigits, digits_value}
use Rattle.fixed_write.specs.Texts.{last_digits}

-- `digits` are the `count` digits of `n`
pub record IsFraction (count n : ℕ) (digits : List ℕ) : Type 0 where
  pub text : digits ≡ last_digits 10 false count n
  pub are : AllDigits 10 digits
  pub value : digits_value 10 digits ≡ n
  pub long : length digits ≡ count
