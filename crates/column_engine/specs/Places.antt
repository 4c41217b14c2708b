-- Bytes of a record that can be passed over at once.
use Rattle.std.specs.Prelude.{◌≡◌, ◌<◌, ◌==◌, ◌-◌, ℕ, List, false, get_or, if◌then◌else◌, length}
use Rattle.std.specs.Int.{trailing_zeros, w64}
use Rattle.column_engine.specs.Rows.{ends_field, within_after}
use Rattle.column_engine.specs.declared.place.Place.{Place}
use Rattle.column_engine.specs.declared.place.Place.TheVariants.{Inside, Start}

-- none of the first `count` of these bytes is `byte`
abbrev pub HasNoBefore : ℕ → List ℕ → ℕ → Type 0
HasNoBefore byte bytes count = (j : ℕ) → j < count → (get_or bytes j 0 == byte) ≡ false

-- the index of the lowest set bit, or sixteen if none is set
abbrev pub first_set : ℕ → ℕ
first_set marks = if marks == 0 then 16 else trailing_zeros w64 marks

-- none of the first `count` bytes is a quote or ends a line
pub record IsPlainBefore (bytes : List ℕ) (count : ℕ) : Type 0 where
  pub quote : HasNoBefore 34 bytes count
  pub newline : HasNoBefore 10 bytes count
  pub carriage_return : HasNoBefore 13 bytes count

-- the place after bytes without quotes and line ends
abbrev pub behind_plain : ℕ → Place → List ℕ → Place
behind_plain delimiter place bytes = if length bytes == 0 then place
    else (if get_or bytes (length bytes - 1) 0 == delimiter then Start else Inside)

-- each of the first `count` bytes belongs to a field and keeps the place
pub record StaysFor (delimiter : ℕ) (place : Place) (bytes : List ℕ) (count : ℕ) : Type 0 where
  pub inside : (j : ℕ) → j < count → ends_field delimiter place (get_or bytes j 0) ≡ false
  pub keeps : (j : ℕ) → j < count → within_after place (get_or bytes j 0) ≡ place
