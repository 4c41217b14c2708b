-- The formats that the numerals of a list fit within an error, and the least of them.
use Rattle.std.specs.Prelude.{◌≡◌, ◌+◌, ◌^◌, ◌<◌, ◌≤◌, ℕ, Bool, true, false, List, [], ◌∷◌, ◌++◌, length}
use Rattle.fixed_bits.specs.Ranges.{IsTypeWidth, IsWidth}
use Rattle.fixed_bits.specs.declared.mode.ReadMode.TheVariants.{NearestEven}
use Rattle.fixed_error.specs.ErrorSize.{HasErrorWithin, IsAtMost}
use Rattle.fixed_numeral.specs.Numeral.{HasNumeral, Parts}
use Rattle.fixed_numeral.specs.Value.{magnitude}
use Rattle.fixed_numeral.specs.declared.radix.Radix.{Radix}
use Rattle.fixed_fit.specs.Fitting.{AllFit, Choice, MayBeChosen}
use Rattle.fixed_fit.specs.declared.question.Widths.{Widths}
use Rattle.fixed_fit.specs.declared.question.Widths.TheVariants.{One, Types, Any}

-- each line is a numeral whose error at this fraction length is at most the bound
abbrev pub AllWithin : Radix → ℕ → List ℕ → List (List ℕ) → Type 0
AllWithin r f bound [] = Unit {0}
AllWithin r f bound (line ∷ lines) = HasErrorWithin NearestEven r f line bound × AllWithin r f bound lines

-- half an ulp of 2^-f, 1 / 2^(f + 1), is at most the bound
pub record IsHalfWithin (r : Radix) (f : ℕ) (bound : List ℕ) : Type 0 where
  pub parts : Parts
  pub numeral : HasNumeral r bound parts
  pub at_most : IsAtMost (record { num = 1; den = 2 ^ (f + 1) }) (magnitude r parts)

-- the greatest error at this fraction length is at most the bound: half an ulp for every value of a range, whatever its
-- ends; for lines, the error of each
abbrev pub IsErrorWithin : Bool → Radix → ℕ → List ℕ → List (List ℕ) → Type 0
IsErrorWithin true r f bound lines = IsHalfWithin r f bound
IsErrorWithin false r f bound lines = AllWithin r f bound lines

-- a width that is tried: only `one`; 8, 16, 32 and 64; or each from 1 to 64
abbrev pub IsTried : Widths → ℕ → ℕ → Type 0
IsTried One one n = n ≡ one
IsTried Types one n = IsTypeWidth n
IsTried Any one n = IsWidth n

-- the greatest of the widths that are tried
abbrev pub most_width : Widths → ℕ → ℕ
most_width One one = one
most_width Types one = 64
most_width Any one = 64

-- m is the greatest of the tried widths that are less than n
pub record IsNextBelow (widths : Widths) (one n m : ℕ) : Type 0 where
  pub tried : IsTried widths one m
  pub less : m < n
  pub greatest : (k : ℕ) → IsTried widths one k → k < n → k ≤ m

-- the format of this width and fraction length may be chosen, each line fits it, and the greatest error is within the
-- bound
pub record Serves (range : Bool) (r : Radix) (c : Choice) (bound : List ℕ) (lines : List (List ℕ))
    (n f : ℕ) : Type 0 where
  pub chosen : MayBeChosen c n f
  pub fit : AllFit r c.signed n f lines
  pub within : IsErrorWithin range r f bound lines

-- a format of one of the widths serves
pub record IsServed (range : Bool) (r : Radix) (c : Choice) (bound : List ℕ) (widths : Widths) (one : ℕ)
    (lines : List (List ℕ)) : Type 0 where
  pub width : ℕ
  pub tried : IsTried widths one width
  pub frac : ℕ
  pub serves : Serves range r c bound lines width frac

-- n is the least of the widths at which a format serves, and f the greatest fraction length of those that do
pub record IsLeastWithin (range : Bool) (r : Radix) (c : Choice) (bound : List ℕ) (widths : Widths) (one : ℕ)
    (lines : List (List ℕ)) (n f : ℕ) : Type 0 where
  pub tried : IsTried widths one n
  pub serves : Serves range r c bound lines n f
  pub greatest : (g : ℕ) → f < g → ¬ Serves range r c bound lines n g
  pub least : (m g : ℕ) → m < n → IsTried widths one m → ¬ Serves range r c bound lines m g

-- `place` is the number, from 1, of the first line with which no format serves any more
pub record IsFirstUnserved (range : Bool) (r : Radix) (c : Choice) (bound : List ℕ) (widths : Widths) (one : ℕ)
    (lines : List (List ℕ)) (place : ℕ) : Type 0 where
  pub before : List (List ℕ)
  pub line : List ℕ
  pub after : List (List ℕ)
  pub split : lines ≡ before ++ line ∷ after
  pub served : IsServed range r c bound widths one before
  pub unserved : ¬ IsServed range r c bound widths one (before ++ line ∷ [])
  pub place_is : place ≡ length before + 1

-- the line from which on no format serves: its number, or 0 if no format serves even without a line
pub record IsUnservedFrom (range : Bool) (r : Radix) (c : Choice) (bound : List ℕ) (widths : Widths) (one : ℕ)
    (lines : List (List ℕ)) (place : ℕ) : Type 0 where
  pub never : place ≡ 0 → ¬ IsServed range r c bound widths one []
  pub first : 0 < place → IsFirstUnserved range r c bound widths one lines place
