-- How far a numeral is above a whole number of ulps, to about 36 digits.
use Rattle.std.specs.Prelude.{◌≡◌, ℕ, ◌+◌, ◌-◌, ◌*◌, ◌^◌, ◌<◌, ◌≤◌, List, length, take, min}
use Rattle.std.specs.Int.Digits.{number_from_digits}
use Rattle.fixed_numeral.specs.Numeral.{Parts, HasNumeral}
use Rattle.fixed_numeral.specs.Value.{magnitude}
use Rattle.fixed_numeral.specs.declared.radix.Radix.{Radix}
use Rattle.fixed_error.specs.Errors.{parts}
use Rattle.fixed_error.specs.declared.rest.Behind.{Behind}
use Rattle.fixed_error.specs.declared.rest.Behind.TheVariants.{ByParts, ByWord}
use Rattle.fixed_error.specs.declared.rest.Rest.{Rest}

-- the number that the first n digits spell, padded with zeros
unfoldable pub first_number : ℕ → ℕ → List ℕ → ℕ
first_number b n digits = number_from_digits b (take n digits) * b ^ (n - min n (length digits))

-- num / den is `rest` parts of `one` above a whole number, or up to `slack` parts more
pub record IsBehind (num den one rest slack : ℕ) : Type 0 where
  pub ulps : ℕ
  pub at_least : (ulps * one + rest) * den ≤ num * one
  pub at_most : num * one ≤ (ulps * one + rest + slack) * den

-- a numeral in ulps of 2^-f is that far above a whole number
pub record IsRest (r : Radix) (f : ℕ) (bytes : List ℕ) (x : Rest) : Type 0 where
  pub behind : (p : Parts) → HasNumeral r bytes p
      → IsBehind ((magnitude r p).num * 2 ^ f) (magnitude r p).den (parts r) x.rest x.slack
  pub one : x.one ≡ parts r
  pub below : x.rest < x.one
  pub few : x.slack ≤ 2 ^ (f + 3)

-- a word's parts of 10^-18 in parts of 10^-36
unfoldable pub rest_of_word : ℕ → Rest
rest_of_word word = record { one = 10 ^ 18 * 10 ^ 18; rest = word * 10 ^ 18; slack = 0 }

-- a numeral is that far above a whole number
abbrev pub IsBehindBy : Radix → List ℕ → Behind → Type 0
IsBehindBy r bytes (ByWord word) = (word < 10 ^ 18) × IsRest r 0 bytes (rest_of_word word)
IsBehindBy r bytes (ByParts rest) = IsRest r 0 bytes rest

-- a numeral is `near` parts of 10^-18 from the nearest whole number of ulps of 2^-f
pub record IsNear (r : Radix) (f : ℕ) (bytes : List ℕ) (near : ℕ) : Type 0 where
  pub word : ℕ
  pub rest : IsRest r f bytes (rest_of_word word)
  pub near_is : near ≡ min word (10 ^ 18 - word)
