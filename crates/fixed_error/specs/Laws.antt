-- Statements of this crate's laws.
use Rattle.std.specs.Prelude.{◌≡◌, ℕ, ◌≤◌, List}
use Rattle.fixed_bits.specs.declared.mode.ReadMode.{ReadMode}
use Rattle.fixed_bits.specs.declared.mode.ReadMode.TheVariants.{NearestEven}
use Rattle.fixed_numeral.specs.Value.{Fraction}
use Rattle.fixed_numeral.specs.declared.radix.Radix.{Radix}
use Rattle.fixed_error.specs.ErrorSize.{HasErrorAbove, HasErrorSize, HasErrorWithin, IsAtMost}
use Rattle.fixed_error.specs.Greatest.{Entry, IsFirstGreatest}

-- only one of some numerals is the first with the greatest error
abbrev pub FirstGreatestIsTheOne : Type 0
FirstGreatestIsTheOne = (mode : ReadMode) (r : Radix) (f : ℕ) (entries : List Entry) (p q : ℕ) (one other : List ℕ)
    → IsFirstGreatest mode r f entries p one → IsFirstGreatest mode r f entries q other → (p ≡ q) × (one ≡ other)

-- rounded to nearest, the error of a numeral does not grow with the fraction length
abbrev pub ErrorNeverGrows : Type 0
ErrorNeverGrows = (r : Radix) (f g : ℕ) (bytes : List ℕ) (a b : Fraction) → f ≤ g → HasErrorSize NearestEven r f bytes a
    → HasErrorSize NearestEven r g bytes b → IsAtMost b a

-- an error that is above a bound is not within it
abbrev pub AboveNotWithin : Type 0
AboveNotWithin = (mode : ReadMode) (r : Radix) (f : ℕ) (bytes bound : List ℕ) → HasErrorAbove mode r f bytes bound
    → ¬ HasErrorWithin mode r f bytes bound

-- rounded to nearest, an error that is within a bound is within it at each longer fraction length
abbrev pub WithinEachLonger : Type 0
WithinEachLonger = (r : Radix) (f g : ℕ) (bytes bound : List ℕ) → f ≤ g → HasErrorWithin NearestEven r f bytes bound
    → HasErrorWithin NearestEven r g bytes bound
