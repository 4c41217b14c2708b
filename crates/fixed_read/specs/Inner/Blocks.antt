-- The first digits of a fraction as one number, and the ulps that they make.
use Rattle.std.specs.Prelude.{◌≡◌, ℕ, ◌+◌, ◌*◌, ◌^◌, ◌<◌, List, length}
use Rattle.std.specs.Int.Digits.{number_from_digits, AllBelowBase}
use Rattle.fixed_numeral.specs.Place.{NoTrailingZero}

-- 0.BLOCK REST, with count digits in the block, is the number 0.DS
pub record IsBlockOf (b : ℕ) (ds rest : List ℕ) (block count : ℕ) : Type 0 where
  pub same : (block * b ^ length rest + number_from_digits b rest) * b ^ length ds
      ≡ number_from_digits b ds * b ^ (count + length rest)
  pub small : block < b ^ count
  pub digits : AllBelowBase b rest
  pub trailing : NoTrailingZero rest

-- the block is q whole ulps and rest / unit of an ulp; bits is how much greater frac is than count
pub record IsCandidate (block count frac q rest unit bits : ℕ) : Type 0 where
  pub split : q * unit + rest ≡ block * 2 ^ bits
  pub small : rest < unit
  pub scale : unit * 2 ^ frac ≡ 2 ^ bits * 10 ^ count
  pub most : unit < 2 ^ 63

-- the rest of an ulp, from the block's rest and the digits after the block, over `scaled_unit`
abbrev pub scaled_rest : ℕ → ℕ → List ℕ → ℕ
scaled_rest rest bits ds = rest * 10 ^ length ds + number_from_digits 10 ds * 2 ^ bits

abbrev pub scaled_unit : ℕ → List ℕ → ℕ
scaled_unit unit ds = unit * 10 ^ length ds
