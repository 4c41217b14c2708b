-- The first of the numerals with the greatest error.
use Rattle.std.specs.Prelude.{◌≡◌, ℕ, ◌≤◌, Bool, true, false, List, [], ◌∷◌, ◌++◌}
use Rattle.fixed_bits.specs.declared.mode.ReadMode.{ReadMode}
use Rattle.fixed_numeral.specs.declared.radix.Radix.{Radix}
use Rattle.fixed_error.specs.ErrorSize.{HasGreaterError, HasNoGreaterError, IsReadWithin}
use Rattle.fixed_error.specs.declared.greatest.GreatestError.{GreatestError}

-- a numeral and its place
pub record Entry : Type 0 where
  pub place : ℕ
  pub numeral : List ℕ

-- the numeral has a greater error than each of the entries
abbrev pub IsAboveAll : ReadMode → Radix → ℕ → List ℕ → List Entry → Type 0
IsAboveAll mode r f numeral [] = Unit {0}
IsAboveAll mode r f numeral (entry ∷ entries) = HasGreaterError mode r f numeral entry.numeral
    × IsAboveAll mode r f numeral entries

-- none of the entries has a greater error than the numeral
abbrev pub IsNotBelowAny : ReadMode → Radix → ℕ → List ℕ → List Entry → Type 0
IsNotBelowAny mode r f numeral [] = Unit {0}
IsNotBelowAny mode r f numeral (entry ∷ entries) = HasNoGreaterError mode r f entry.numeral numeral
    × IsNotBelowAny mode r f numeral entries

-- the first of the entries with the greatest error is this numeral at this place
pub record IsFirstGreatest (mode : ReadMode) (r : Radix) (f : ℕ) (entries : List Entry) (place : ℕ)
    (numeral : List ℕ) : Type 0 where
  pub before : List Entry
  pub after : List Entry
  pub split : entries ≡ before ++ record { place = place; numeral = numeral } ∷ after
  pub within : IsReadWithin mode r f numeral
  pub above : IsAboveAll mode r f numeral before
  pub not_below : IsNotBelowAny mode r f numeral after

-- what is kept of the entries: nothing if there are none, else the first with the greatest error
abbrev pub IsKept : ReadMode → Radix → ℕ → List Entry → Bool → ℕ → List ℕ → Type 0
IsKept mode r f entries false place numeral = entries ≡ []
IsKept mode r f entries true place numeral = IsFirstGreatest mode r f entries place numeral

pub record HasGreatest (entries : List Entry) (g : GreatestError) : Type 0 where
  pub frac : g.frac ≤ 64
  pub kept : IsKept g.mode g.radix g.frac entries g.is_some g.place g.numeral.items

-- g holds what is kept of some numerals
abbrev pub HasSomeGreatest : GreatestError → Type 0
HasSomeGreatest g = (entries : List Entry) × HasGreatest entries g
