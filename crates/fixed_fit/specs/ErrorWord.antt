-- The greatest error of a list in a format, as it is written.
use Rattle.std.specs.Prelude.{◌≡◌, ◌⊎◌, ◌==◌, ℕ, suc, Bool, true, false, if◌then◌else◌, List, [], ◌∷◌, ◌++◌}
use Rattle.std.specs.Prelude.{replicate, codes}
use Rattle.fixed_bits.specs.Formats.{FormatParts}
use Rattle.fixed_bits.specs.declared.format.Policy.TheVariants.{Checked}
use Rattle.fixed_bits.specs.declared.mode.ReadMode.TheVariants.{NearestEven}
use Rattle.fixed_error.specs.Greatest.{Entry, IsFirstGreatest}
use Rattle.fixed_numeral.specs.declared.radix.Radix.{Radix}
use Rattle.fixed_numeral.specs.declared.radix.Radix.TheVariants.{Bin}
use Rattle.fixed_show.specs.ShowBlock.{IsShownError}

-- a text without the minus before it
abbrev pub without_minus : List ℕ → List ℕ
without_minus [] = []
without_minus (b ∷ bs) = if b == 45 then bs else b ∷ bs

-- text is the size of the error that a numeral has in a format, rounded to nearest
pub record IsSizeText (r : Radix) (f : FormatParts) (numeral text : List ℕ) : Type 0 where
  pub signed : List ℕ
  pub shown : IsShownError NearestEven r numeral f Checked signed
  pub text_is : text ≡ without_minus signed

-- the lines with their places, the first of them at `place`
abbrev pub entries_from : ℕ → List (List ℕ) → List Entry
entries_from place [] = []
entries_from place (line ∷ lines) = record { place = place; numeral = line } ∷ entries_from (suc place) lines

-- text is the size of the greatest error in a format, that of the first of the lines that has it
pub record IsGreatestText (r : Radix) (f : FormatParts) (lines : List (List ℕ)) (text : List ℕ) : Type 0 where
  pub place : ℕ
  pub numeral : List ℕ
  pub greatest : IsFirstGreatest NearestEven r f.frac (entries_from 1 lines) place numeral
  pub size : IsSizeText r f numeral text

-- half an ulp of 2^-f, as a numeral of radix 2
unfoldable pub half_ulp : ℕ → List ℕ
half_ulp f = codes "0." ++ (replicate f 48 ++ 49 ∷ [])

-- text is the greatest error in a format: half an ulp for every value of a range; for lines, the greatest error of one,
-- or 0 if there are none
abbrev pub IsErrorWord : Bool → Radix → FormatParts → List (List ℕ) → List ℕ → Type 0
IsErrorWord true r f lines text = IsSizeText Bin f (half_ulp f.frac) text
IsErrorWord false r f lines text = ((lines ≡ []) × (text ≡ codes "0")) ⊎ IsGreatestText r f lines text
