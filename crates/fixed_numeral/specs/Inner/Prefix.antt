-- Requirements for reading the first digits of a view as a number.
use Rattle.std.specs.Prelude.{ℕ, ◌^◌, ◌≤◌, List, length}
use Rattle.std.specs.Int.Digits.{AllBelowBase}

-- there are at least i digits, all below a base from 2 to 16, and each number of i digits fits 64 bits
pub record HasPrefixNumber (base i : ℕ) (ds : List ℕ) : Type 0 where
  pub within : i ≤ length ds
  pub digits : AllBelowBase base ds
  pub least : 2 ≤ base
  pub most : base ≤ 16
  pub room : base ^ i ≤ 2 ^ 64
