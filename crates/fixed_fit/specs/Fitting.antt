-- The formats that the numerals of a list fit, and the finest of them.
use Rattle.std.specs.Prelude.{◌≡◌, ◌⊎◌, ◌+◌, ◌-◌, ◌<◌, ℕ, Bool, true, false, List, [], ◌∷◌, ◌++◌, length}
use Rattle.fixed_bits.specs.declared.mode.ReadMode.TheVariants.{NearestEven}
use Rattle.fixed_numeral.specs.Numeral.{Parts, HasNumeral, is_minus}
use Rattle.fixed_numeral.specs.Value.{magnitude}
use Rattle.fixed_numeral.specs.declared.radix.Radix.{Radix}
use Rattle.fixed_read.specs.Reading.{IsReadInRange, IsReadOutOfRange}
use Rattle.fixed_fit.specs.declared.question.Fractions.{Fractions}
use Rattle.fixed_fit.specs.declared.question.Fractions.TheVariants.{Beyond, Whole}

-- the number of fraction lengths, from 0 on, that a format of width n may have: n - f is at least the whole bits, or f
-- is at most 64, whatever the width
abbrev pub frac_lengths : Fractions → ℕ → ℕ
frac_lengths (Whole least) n = n + 1 - least
frac_lengths Beyond n = 65

-- the formats of a width that may be chosen: their sign rule, and their fraction lengths
pub record Choice : Type 0 where
  pub signed : Bool
  pub fractions : Fractions

abbrev pub choice : Bool → Fractions → Choice
choice s fractions = record { signed = s; fractions = fractions }

-- the format of width n and fraction length f may be chosen
abbrev pub MayBeChosen : Choice → ℕ → ℕ → Type 0
MayBeChosen c n f = f < frac_lengths c.fractions n

-- a line is a numeral that is in range after rounding to nearest, with this sign rule, width and fraction length
abbrev pub Fits : Radix → Bool → ℕ → ℕ → List ℕ → Type 0
Fits r s n f line = IsReadInRange NearestEven r (HasNumeral r line) f s n

-- a line is a numeral that is out of range after rounding
abbrev pub Exceeds : Radix → Bool → ℕ → ℕ → List ℕ → Type 0
Exceeds r s n f line = IsReadOutOfRange NearestEven r (HasNumeral r line) f s n

-- each line is a numeral that is in range
abbrev pub AllFit : Radix → Bool → ℕ → ℕ → List (List ℕ) → Type 0
AllFit r s n f [] = Unit {0}
AllFit r s n f (line ∷ lines) = Fits r s n f line × AllFit r s n f lines

-- `place` is the number, from 1, of the first line that is out of range
pub record IsFirstExceeding (r : Radix) (s : Bool) (n f : ℕ) (lines : List (List ℕ)) (place : ℕ) : Type 0 where
  pub before : List (List ℕ)
  pub line : List ℕ
  pub after : List (List ℕ)
  pub split : lines ≡ before ++ line ∷ after
  pub fit : AllFit r s n f before
  pub exceeds : Exceeds r s n f line
  pub place_is : place ≡ length before + 1

-- of the formats of width n that may be chosen, f is the greatest fraction length with which each line is in range
pub record IsFinest (r : Radix) (c : Choice) (n : ℕ) (lines : List (List ℕ)) (f : ℕ) : Type 0 where
  pub chosen : MayBeChosen c n f
  pub fit : AllFit r c.signed n f lines
  pub greatest : (g : ℕ) → f < g → MayBeChosen c n g → ¬ AllFit r c.signed n g lines

-- the number with these parts is below zero
pub record IsBelowZero (r : Radix) (p : Parts) : Type 0 where
  pub minus : is_minus p.sign ≡ true
  pub some : 0 < (magnitude r p).num

-- a line is a numeral below zero
pub record IsLineBelowZero (r : Radix) (line : List ℕ) : Type 0 where
  pub parts : Parts
  pub numeral : HasNumeral r line parts
  pub below : IsBelowZero r parts

-- one of the lines is a numeral below zero
abbrev pub HasBelowZero : Radix → List (List ℕ) → Type 0
HasBelowZero r [] = ⊥
HasBelowZero r (line ∷ lines) = IsLineBelowZero r line ⊎ HasBelowZero r lines

-- the sign rule of a list: signed exactly if that is requested or a numeral is below zero
abbrev pub IsSignRule : Radix → Bool → List (List ℕ) → Bool → Type 0
IsSignRule r asked lines true = (asked ≡ true) ⊎ HasBelowZero r lines
IsSignRule r asked lines false = (asked ≡ false) × ¬ HasBelowZero r lines
