-- The whole number that each mode rounds a fraction to.
use Rattle.std.specs.Prelude.{◌≡◌, ℕ, ◌+◌, ◌*◌, ◌<◌, ◌≤◌, Bool, true, false}
use Rattle.fixed_bits.specs.declared.mode.ReadMode.{ReadMode}
use Rattle.fixed_bits.specs.declared.mode.ReadMode.TheVariants.{NearestEven, TowardsZero, Floor, Ceil}
use Rattle.fixed_bits.specs.declared.mode.ReadMode.TheVariants.{NearestAway, NearestZero, NearestUp, NearestDown}
use Rattle.fixed_bits.specs.declared.mode.ReadMode.TheVariants.{AwayFromZero}
use Rattle.fixed_bits.specs.Nearest.{IsNearest, distance}

-- q is the greatest whole number not above num / den
pub record IsNotAbove (num den q : ℕ) : Type 0 where
  pub at_most : q * den ≤ num
  pub next : num < (q + 1) * den

-- q is the least whole number not below num / den
pub record IsNotBelow (num den q : ℕ) : Type 0 where
  pub at_least : num ≤ q * den
  pub before : q * den < num + den

-- q is nearest to num / den, and the greater of two equally near
pub record IsNearestGreater (num den q : ℕ) : Type 0 where
  pub near : 2 * distance num (q * den) ≤ den
  pub tie : 2 * distance num (q * den) ≡ den → num ≤ q * den

-- q is nearest to num / den, and the lesser of two equally near
pub record IsNearestLesser (num den q : ℕ) : Type 0 where
  pub near : 2 * distance num (q * den) ≤ den
  pub tie : 2 * distance num (q * den) ≡ den → q * den ≤ num

-- q is the magnitude num / den rounded as `mode` rounds the number, which is negative if `negative`
abbrev pub IsRounded : ReadMode → Bool → ℕ → ℕ → ℕ → Type 0
IsRounded NearestEven negative num den q = IsNearest num den q
IsRounded NearestAway negative num den q = IsNearestGreater num den q
IsRounded NearestZero negative num den q = IsNearestLesser num den q
IsRounded NearestUp false num den q = IsNearestGreater num den q
IsRounded NearestUp true num den q = IsNearestLesser num den q
IsRounded NearestDown false num den q = IsNearestLesser num den q
IsRounded NearestDown true num den q = IsNearestGreater num den q
IsRounded Floor false num den q = IsNotAbove num den q
IsRounded Floor true num den q = IsNotBelow num den q
IsRounded Ceil false num den q = IsNotBelow num den q
IsRounded Ceil true num den q = IsNotAbove num den q
IsRounded TowardsZero negative num den q = IsNotAbove num den q
IsRounded AwayFromZero negative num den q = IsNotBelow num den q

-- the mode that rounds the magnitude of a number, negative or not, as `mode` rounds the number
abbrev pub magnitude_mode : ReadMode → Bool → ReadMode
magnitude_mode mode false = mode
magnitude_mode Floor true = Ceil
magnitude_mode Ceil true = Floor
magnitude_mode NearestUp true = NearestDown
magnitude_mode NearestDown true = NearestUp
magnitude_mode NearestEven true = NearestEven
magnitude_mode NearestAway true = NearestAway
magnitude_mode NearestZero true = NearestZero
magnitude_mode TowardsZero true = TowardsZero
magnitude_mode AwayFromZero true = AwayFromZero
