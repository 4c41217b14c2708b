-- The numeral with the greatest error in a format, among numerals that come one after another.
use Rattle.std.specs.Prelude.{◌≡◌, ◌⊎◌, ◌≤◌, ◌<◌, ◌-◌, ◌^◌, ℕ, ℤ, Bool, List, [], ◌∷◌, length, Option, None, Some}
use Rattle.std.specs.Prelude.{true, vec_capacity}
use Rattle.fixed_bits.specs.Formats.{FormatParts}
use Rattle.fixed_bits.specs.declared.format.Policy.TheVariants.{Checked}
use Rattle.fixed_bits.specs.declared.mode.ReadMode.{ReadMode}
use Rattle.fixed_error.specs.Cut.{IsCutError}
use Rattle.fixed_error.specs.ErrorSize.{HasGreaterError}
use Rattle.fixed_error.specs.Greatest.{Entry, HasGreatest, HasSomeGreatest, IsKept}
use Rattle.fixed_error.specs.declared.cut.CutError.{CutError}
use Rattle.fixed_error.specs.declared.greatest.GreatestError.{GreatestError}
use Rattle.fixed_numeral.specs.declared.radix.Radix.{Radix}
use Rattle.fixed_report.specs.Sums.{AreSums, HasSomeSums}
use Rattle.fixed_report.specs.declared.report.Lost.{Lost}
use Rattle.fixed_report.specs.declared.report.Lost.TheVariants.{NoMemory, TooLong}
use Rattle.fixed_report.specs.declared.sums.ErrorSums.{ErrorSums}
use Rattle.fixed_show.specs.ShowBlock.{HasNoBits, IsReadAs}

-- `bytes` are a numeral in range of the format after reading
pub record IsIn (mode : ReadMode) (r : Radix) (f : FormatParts) (bytes : List ℕ) : Type 0 where
  pub bits : ℤ
  pub overflowed : Bool
  pub read : IsReadAs mode r bytes f Checked bits overflowed

-- `found` are the entries whose numerals are in range
abbrev pub AreIn : ReadMode → Radix → FormatParts → List Entry → List Entry → Type 0
AreIn mode r f [] found = found ≡ []
AreIn mode r f (e ∷ es) found = (more : List Entry) × AreIn mode r f es more
    × ((IsIn mode r f e.numeral × (found ≡ e ∷ more)) ⊎ (HasNoBits mode r e.numeral f Checked × (found ≡ more)))

-- `is` says whether an entry is in range; then `place` and `numeral` are those of the first with the greatest error
abbrev pub IsReported : ReadMode → Radix → FormatParts → List Entry → Bool → ℕ → List ℕ → Type 0
IsReported mode r f entries is place numeral = (found : List Entry) × AreIn mode r f entries found
    × IsKept mode r f.frac found is place numeral

-- the report `g` is of these entries, unless it was lost
abbrev pub HasReport : ReadMode → Radix → FormatParts → List Entry → Option Lost → GreatestError → Type 0
HasReport mode r f entries lost g = lost ≡ None → (found : List Entry) × AreIn mode r f entries found
    × HasGreatest found g

-- `errors` are the cut errors of the entries
abbrev pub AreCut : ReadMode → Radix → ℕ → List Entry → List CutError → Type 0
AreCut mode r f [] errors = errors ≡ []
AreCut mode r f (e ∷ es) errors = (error : CutError) × (more : List CutError) × (errors ≡ error ∷ more)
    × IsCutError mode r f e.numeral error × AreCut mode r f es more

-- the sums are those of the errors of these entries, unless the sums are full or the report was lost
abbrev pub HasSums : ReadMode → Radix → FormatParts → List Entry → Option Lost → ErrorSums → Type 0
HasSums mode r f entries lost sums = lost ≡ None → sums.count < 2 ^ 64 - 1 → (found : List Entry)
    × AreIn mode r f entries found × (errors : List CutError) × AreCut mode r f.frac found errors × AreSums errors sums

-- the longest numeral kept, in bytes
abbrev pub longest_kept : ℕ
longest_kept = 1048577

-- the most steps that one more numeral costs, for each of its bytes and besides them: it is read, its error is cut, and
-- it is compared with the longest numeral kept
abbrev pub add_per_byte : ℕ
add_per_byte = 43

abbrev pub add_extra : ℕ
add_extra = 20973313

-- the state: how numerals are read, the numeral with the greatest error, the sums, and why they are not known
pub record Kept : Type 0 where
  pub radix : Radix
  pub format : FormatParts
  pub mode : ReadMode
  pub greatest : GreatestError
  pub sums : ErrorSums
  pub lost : Option Lost

-- the state is that of some numerals
pub record IsSound (k : Kept) : Type 0 where
  pub radix : k.greatest.radix ≡ k.radix
  pub frac : k.greatest.frac ≡ k.format.frac
  pub mode : k.greatest.mode ≡ k.mode
  pub known : k.lost ≡ None → HasSomeGreatest k.greatest
  pub sums : HasSomeSums k.sums
  pub short : length k.greatest.numeral.items ≤ longest_kept

-- memory is needed to keep the numeral: it has a greater error than those so far, and more bytes than there is room for
pub record NeedsMemory (g : GreatestError) (numeral : List ℕ) : Type 0 where
  pub greater : g.is_some ≡ true → HasGreaterError g.mode g.radix g.frac numeral g.numeral.items
  pub no_room : vec_capacity g.numeral < length numeral

-- why the report is lost after one more numeral: an earlier reason stays; a numeral in range that is too long to keep
-- is a reason; a numeral without bits is none; otherwise only lack of memory is one, where memory is needed
pub record IsLostBy (k : Kept) (numeral : List ℕ) (lost : Option Lost) : Type 0 where
  pub stays : (why : Lost) → k.lost ≡ Some why → lost ≡ Some why
  pub long : k.lost ≡ None → IsIn k.mode k.radix k.format numeral → longest_kept < length numeral
      → lost ≡ Some TooLong
  pub short : k.lost ≡ None → length numeral ≤ longest_kept → ¬ (lost ≡ Some TooLong)
  pub out : k.lost ≡ None → HasNoBits k.mode k.radix numeral k.format Checked → lost ≡ None
  pub memory : k.lost ≡ None → lost ≡ Some NoMemory → NeedsMemory k.greatest numeral
