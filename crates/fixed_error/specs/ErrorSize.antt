-- The size of a rounded numeral's error, and the greater of two errors.
use Rattle.std.specs.Prelude.{◌≡◌, ℕ, ◌*◌, ◌^◌, ◌<◌, ◌≤◌, List, ℤ}
use Rattle.fixed_bits.specs.Nearest.{distance}
use Rattle.fixed_bits.specs.declared.mode.ReadMode.{ReadMode}
use Rattle.fixed_numeral.specs.Numeral.{Parts, HasNumeral}
use Rattle.fixed_numeral.specs.Value.{Fraction, magnitude}
use Rattle.fixed_numeral.specs.declared.radix.Radix.{Radix}
use Rattle.fixed_read.specs.Reading.{IsReadNumber}

-- the distance between a magnitude and a whole number of ulps of 2^-f
abbrev pub error_size : Fraction → ℕ → ℕ → Fraction
error_size m f ulps = record { num = distance (m.num * 2 ^ f) (ulps * m.den); den = 2 ^ f * m.den }

-- bytes are a numeral, and size is that of its error if it is rounded in the mode to a whole number of ulps of 2^-f
pub record HasErrorSize (mode : ReadMode) (r : Radix) (f : ℕ) (bytes : List ℕ) (size : Fraction) : Type 0 where
  pub parts : Parts
  pub numeral : HasNumeral r bytes parts
  pub number : ℤ
  pub read : IsReadNumber mode r parts f number
  pub size_is : size ≡ error_size (magnitude r parts) f read.ulps

-- a fraction is less than another
abbrev pub IsLess : Fraction → Fraction → Type 0
IsLess a b = a.num * b.den < b.num * a.den

-- a fraction is at most another
abbrev pub IsAtMost : Fraction → Fraction → Type 0
IsAtMost a b = a.num * b.den ≤ b.num * a.den

-- the error of one numeral is greater in size than that of another
pub record HasGreaterError (mode : ReadMode) (r : Radix) (f : ℕ) (one other : List ℕ) : Type 0 where
  pub one_size : Fraction
  pub has_one : HasErrorSize mode r f one one_size
  pub other_size : Fraction
  pub has_other : HasErrorSize mode r f other other_size
  pub greater : IsLess other_size one_size

-- the error of one numeral is at most that of another in size
pub record HasNoGreaterError (mode : ReadMode) (r : Radix) (f : ℕ) (one other : List ℕ) : Type 0 where
  pub one_size : Fraction
  pub has_one : HasErrorSize mode r f one one_size
  pub other_size : Fraction
  pub has_other : HasErrorSize mode r f other other_size
  pub at_most : IsAtMost one_size other_size

-- the error of a numeral is greater in size than the magnitude of another
pub record HasErrorAbove (mode : ReadMode) (r : Radix) (f : ℕ) (bytes bound : List ℕ) : Type 0 where
  pub size : Fraction
  pub has_size : HasErrorSize mode r f bytes size
  pub bound_parts : Parts
  pub bound_numeral : HasNumeral r bound bound_parts
  pub above : IsLess (magnitude r bound_parts) size

-- the error of a numeral is at most the magnitude of another in size
pub record HasErrorWithin (mode : ReadMode) (r : Radix) (f : ℕ) (bytes bound : List ℕ) : Type 0 where
  pub size : Fraction
  pub has_size : HasErrorSize mode r f bytes size
  pub bound_parts : Parts
  pub bound_numeral : HasNumeral r bound bound_parts
  pub at_most : IsAtMost size (magnitude r bound_parts)

-- bytes are a numeral that is rounded to fewer than 2^64 ulps
pub record IsReadWithin (mode : ReadMode) (r : Radix) (f : ℕ) (bytes : List ℕ) : Type 0 where
  pub parts : Parts
  pub numeral : HasNumeral r bytes parts
  pub number : ℤ
  pub read : IsReadNumber mode r parts f number
  pub within : read.ulps < 2 ^ 64

-- bytes are a numeral that is rounded to n ulps of 2^-f
pub record HasSteps (mode : ReadMode) (r : Radix) (f : ℕ) (bytes : List ℕ) (n : ℕ) : Type 0 where
  pub parts : Parts
  pub numeral : HasNumeral r bytes parts
  pub number : ℤ
  pub read : IsReadNumber mode r parts f number
  pub steps_are : read.ulps ≡ n
