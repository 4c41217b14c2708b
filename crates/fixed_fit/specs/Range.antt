-- Every value between two numerals.
use Rattle.std.specs.Prelude.{◌*◌, ℕ, Bool, true, List, [], ◌∷◌, ℤ, ◌≤ℤ◌}
use Rattle.fixed_bits.specs.Ranges.{IsInRange}
use Rattle.fixed_bits.specs.declared.mode.ReadMode.TheVariants.{NearestEven}
use Rattle.fixed_error.specs.ErrorSize
use Rattle.fixed_error.specs.ErrorSize.{error_size}
use Rattle.fixed_numeral.specs.Numeral.{HasNumeral, Parts, signed}
use Rattle.fixed_numeral.specs.Value.{magnitude}
use Rattle.fixed_numeral.specs.declared.radix.Radix.{Radix}
use Rattle.fixed_read.specs.Reading.{IsReadNumber}
use Rattle.fixed_fit.specs.Fitting.{Choice}
use Rattle.fixed_fit.specs.Within.{Serves}

-- the number with parts p is at most the number with parts q
abbrev pub IsAtMost : Radix → Parts → Parts → Type 0
IsAtMost r p q = signed p.sign ((magnitude r p).num * (magnitude r q).den)
    ≤ℤ signed q.sign ((magnitude r q).num * (magnitude r p).den)

-- the number with these parts is in range after rounding to nearest
pub record IsFitting (r : Radix) (s : Bool) (n f : ℕ) (p : Parts) : Type 0 where
  pub number : ℤ
  pub read : IsReadNumber NearestEven r p f number
  pub in_range : IsInRange s n number

-- if two numbers are in range, so is each number between them
abbrev pub EndsDecide : Type 0
EndsDecide = (r : Radix) (s : Bool) (n f : ℕ) (low high p : Parts) → IsAtMost r low p → IsAtMost r p high
    → IsFitting r s n f low → IsFitting r s n f high → IsFitting r s n f p

-- the number with these parts is in range after rounding to nearest, and its error is at most the bound
pub record IsFittingWithin (r : Radix) (s : Bool) (n f : ℕ) (bound : List ℕ) (p : Parts) : Type 0 where
  pub number : ℤ
  pub read : IsReadNumber NearestEven r p f number
  pub in_range : IsInRange s n number
  pub bound_parts : Parts
  pub bound_numeral : HasNumeral r bound bound_parts
  pub at_most : ErrorSize.IsAtMost (error_size (magnitude r p) f read.ulps) (magnitude r bound_parts)

-- if a format serves a range, each number between its ends is in range in it, with an error within the bound
abbrev pub RangeServesEach : Type 0
RangeServesEach = (r : Radix) (c : Choice) (bound low high : List ℕ) (n f : ℕ) (l h p : Parts) → HasNumeral r low l
    → HasNumeral r high h → IsAtMost r l p → IsAtMost r p h → Serves true r c bound (low ∷ high ∷ []) n f
    → IsFittingWithin r c.signed n f bound p
