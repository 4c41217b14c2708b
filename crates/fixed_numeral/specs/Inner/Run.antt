-- Digits between two indices of a text, for the functions that count them.
use Rattle.std.specs.Prelude.{ℕ, ◌-◌, ◌≤◌, List, length, take, drop}
use Rattle.std.specs.Str.Parse.{AllDigits}

-- the bytes from index `from` up to `at` are digits of base b
pub record IsRun (b : ℕ) (bs : List ℕ) (from at : ℕ) : Type 0 where
  pub prefix : from ≤ at
  pub within : at ≤ length bs
  pub digits : AllDigits b (take (at - from) (drop from bs))
