-- The bias added to a magnitude before it is rounded down, so that it is rounded in a mode of magnitudes.
use Rattle.std.specs.Prelude.{ℕ, ◌+◌, ◌-◌, ◌*◌}
use Rattle.fixed_bits.specs.declared.mode.ReadMode.{ReadMode}
use Rattle.fixed_bits.specs.declared.mode.ReadMode.TheVariants.{NearestEven, TowardsZero, Floor, Ceil}
use Rattle.fixed_bits.specs.declared.mode.ReadMode.TheVariants.{NearestAway, NearestZero, NearestUp, NearestDown}
use Rattle.fixed_bits.specs.declared.mode.ReadMode.TheVariants.{AwayFromZero}

-- the number of half ulps that are added
abbrev pub halves : ReadMode → ℕ
halves NearestEven = 1
halves Floor = 0
halves Ceil = 2
halves TowardsZero = 0
halves NearestAway = 1
halves NearestZero = 1
halves NearestUp = 1
halves NearestDown = 1
halves AwayFromZero = 2

-- 1 if one more is added to an odd count of whole ulps, else 0
abbrev pub of_odd : ReadMode → ℕ
of_odd NearestEven = 1
of_odd Floor = 0
of_odd Ceil = 0
of_odd TowardsZero = 0
of_odd NearestAway = 0
of_odd NearestZero = 0
of_odd NearestUp = 0
of_odd NearestDown = 0
of_odd AwayFromZero = 0

-- the amount that is subtracted
abbrev pub less : ReadMode → ℕ
less NearestEven = 1
less Floor = 0
less Ceil = 1
less TowardsZero = 0
less NearestAway = 0
less NearestZero = 1
less NearestUp = 0
less NearestDown = 1
less AwayFromZero = 1

-- half is half of an ulp, and odd is 1 if the count of whole ulps is odd
abbrev pub bias : ReadMode → ℕ → ℕ → ℕ
bias mode half odd = half * halves mode + odd * of_odd mode - less mode
