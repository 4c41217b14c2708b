-- Contracts of the private functions that print the digits after the point.
use Rattle.std.specs.Prelude.{◌≡◌, ℕ, suc, false, ◌+◌, ◌*◌, ◌/◌, ◌%◌, ◌^◌, ◌<◌, ◌≤◌, ◌⊎◌, List, ◌++◌}
use Rattle.fixed_write.specs.Shortest.{IsShortest}
use Rattle.fixed_write.specs.Texts.{fraction_part}

-- m / 10^k is n / 10^places without trailing zeros
pub record IsReduced (n places m k : ℕ) : Type 0 where
  pub same : n * 10 ^ k ≡ m * 10 ^ places
  pub ends : (k ≡ 0) ⊎ (m % 10 ≡ 0 → ⊥)

-- `places` digits that spell `number`, and `digit`: without trailing zeros, they are the digits after the point of the
-- shortest decimal of c ulps of 2^-g
pub record IsPaddedFraction (c g number places digit : ℕ) : Type 0 where
  pub shortest : (m k : ℕ) → IsReduced (number * 10 + digit) (suc places) m k
      → IsShortest c g (c / 2 ^ g * 10 ^ k + m) k
  pub fits : number < 10 ^ places
  pub few : places ≤ 19
  pub small : digit < 10

-- the digits after the point of the shortest decimal of c ulps of 2^-g: `places` digits that spell `number`, and
-- `digit`
pub record IsShortestFraction (c g number places digit : ℕ) : Type 0 where
  pub shortest : IsShortest c g (c / 2 ^ g * 10 ^ suc places + (number * 10 + digit)) (suc places)
  pub fits : number < 10 ^ places
  pub few : places ≤ 19
  pub small : digit < 10

-- after is before, followed by the point and the digits of n / 10^places without trailing zeros
pub record AppendsReduced (n places : ℕ) (before after : List ℕ) : Type 0 where
  pub number : ℕ
  pub count : ℕ
  pub reduced : IsReduced n places number count
  pub fits : number < 10 ^ count
  pub text_is : after ≡ before ++ fraction_part 10 false count number

-- after is before, followed by the point and the digits of the shortest decimal of c ulps of 2^-g
pub record AppendsFraction (c g : ℕ) (before after : List ℕ) : Type 0 where
  pub number : ℕ
  pub places : ℕ
  pub shortest : IsShortest c g number places
  pub whole : number / 10 ^ places ≡ c / 2 ^ g
  pub text_is : after ≡ before ++ fraction_part 10 false places number
