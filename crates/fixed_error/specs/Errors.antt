-- The greatest errors of numerals that are rounded to nearest, at many fraction lengths.
use Rattle.std.specs.Prelude.{◌≡◌, ℕ, suc, ◌+◌, ◌-◌, ◌*◌, ◌%◌, ◌^◌, ◌<◌, ◌≤◌, true, false, List, [], ◌∷◌}
use Rattle.std.specs.Prelude.{length, get_or, min}
use Rattle.fixed_bits.specs.declared.mode.ReadMode.TheVariants.{NearestEven}
use Rattle.fixed_numeral.specs.Numeral.{base}
use Rattle.fixed_numeral.specs.Value.{Fraction}
use Rattle.fixed_numeral.specs.declared.radix.Radix.{Radix}
use Rattle.fixed_numeral.specs.declared.radix.Radix.TheVariants.{Bin, Oct, Dec, Hex}
use Rattle.fixed_error.specs.ErrorSize.{HasErrorSize, IsAtMost}
use Rattle.fixed_error.specs.Greatest.{Entry, HasGreatest}
use Rattle.fixed_error.specs.declared.errors.GreatestErrors.{GreatestErrors}
use Rattle.fixed_error.specs.declared.errors.LengthError.{LengthError}
use Rattle.fixed_error.specs.declared.greatest.GreatestError.{GreatestError}

-- g holds the greatest error of the entries at fraction length f, rounded to nearest
pub record IsGreatestAt (r : Radix) (f : ℕ) (entries : List Entry) (g : GreatestError) : Type 0 where
  pub radix : g.radix ≡ r
  pub frac : g.frac ≡ f
  pub mode : g.mode ≡ NearestEven
  pub greatest : HasGreatest entries g

-- the number of digits taken at a time: as many as fit 60 bits
abbrev pub block : Radix → ℕ
block Bin = 60
block Oct = 20
block Dec = 18
block Hex = 15

-- the number of parts of an ulp that are told apart: two blocks of digits
unfoldable pub parts : Radix → ℕ
parts r = base r ^ block r * base r ^ block r

-- the error of a numeral is at least this many parts of an ulp of 2^-f
pub record IsErrorAtLeast (r : Radix) (f : ℕ) (bytes : List ℕ) (least : ℕ) : Type 0 where
  pub size : Fraction
  pub has_size : HasErrorSize NearestEven r f bytes size
  pub at_least : IsAtMost (record { num = least; den = 2 ^ f * parts r }) size

-- e is the greatest error at a fraction length, with lower bounds of its size
pub record IsLengthError (r : Radix) (f : ℕ) (entries : List Entry) (e : LengthError) : Type 0 where
  pub is_greatest : IsGreatestAt r f entries e.greatest
  pub none : e.greatest.is_some ≡ false → e.least ≡ 0
  pub least : e.greatest.is_some ≡ true → IsErrorAtLeast r f e.greatest.numeral.items e.least
  pub bound : 0 < e.bound → (e.greatest.is_some ≡ true) × ((e.bound - 1) * 10 ^ 18 ≤ e.least)

abbrev pub HasSomeLengthError : LengthError → Type 0
HasSomeLengthError e = (entries : List Entry) × IsLengthError e.greatest.radix e.greatest.frac entries e

-- the greatest errors at the fraction lengths from f on
abbrev pub AreLengthErrors : Radix → ℕ → List Entry → List LengthError → Type 0
AreLengthErrors r f entries [] = Unit {0}
AreLengthErrors r f entries (e ∷ errors) = IsLengthError r f entries e × AreLengthErrors r (suc f) entries errors

-- half an ulp less 2^-10 of an ulp, in parts of 10^-18
abbrev pub near_half : ℕ
near_half = 499023437500000000

-- the bound of each error is at least that
abbrev pub AreBoundsNearHalf : List LengthError → Type 0
AreBoundsNearHalf [] = Unit {0}
AreBoundsNearHalf (e ∷ errors) = (near_half ≤ e.bound) × AreBoundsNearHalf errors

-- a numeral that is `word` parts of 10^-18 above a whole number has an error below each bound
abbrev pub AreWordsWithin : ℕ → List LengthError → Type 0
AreWordsWithin word [] = Unit {0}
AreWordsWithin word (e ∷ errors) = (min word (10 ^ 18 - word) < e.bound) × AreWordsWithin (2 * word % 10 ^ 18) errors

-- each of the words is 0, or one more than such a word
abbrev pub ArePassed : List ℕ → List LengthError → Type 0
ArePassed words errors = (k word : ℕ) → get_or words k 0 ≡ word + 1 → AreWordsWithin word errors

-- g holds the greatest errors of the entries at the fraction lengths below `count`
pub record HasGreatestErrors (r : Radix) (count : ℕ) (entries : List Entry) (g : GreatestErrors) : Type 0 where
  pub radix : g.radix ≡ r
  pub most : count ≤ 65
  pub count_is : length g.errors.items ≡ count
  pub errors : AreLengthErrors r 0 entries g.errors.items
  pub near : g.are_near_half ≡ true → AreBoundsNearHalf g.errors.items
  pub passed : ArePassed g.passed g.errors.items

-- g holds the greatest errors of some numerals
abbrev pub HasSomeGreatestErrors : GreatestErrors → Type 0
HasSomeGreatestErrors g = (r : Radix) × (count : ℕ) × (entries : List Entry) × HasGreatestErrors r count entries g
