-- The results of calls over rows that give a whole number or a text for each row.
use Rattle.std.specs.Prelude.{◌≡◌, ◌⊎◌, ◌<◌, ℕ, ℤ, List, length, pos, slice_index, slice_index_or}
use Rattle.fixed_bits.specs.Formats.{FormatParts}
use Rattle.fixed_c.specs.Codes.{refusal_code}
use Rattle.fixed_c.specs.Convert.{CompareIsRefused, IsCompared, IsPrintedTo, PlacesIsRefused}
use Rattle.fixed_c.specs.Outcome.{EndsWith}
use Rattle.fixed_c.specs.Rows.{HaveTexts, PutsRow, refused_of, row_at}
use Rattle.fixed_c.specs.declared.refusal.Refusal.{Refusal}
use Rattle.fixed_c.specs.declared.refusal.Refusal.TheVariants.{BadRows}

-- each item and its code are as by the single call for that row, and `refused` counts the refused rows
pub record AreItems (T : Type 0) (Single : ℕ → T → ℕ → Type 0) (items : List T) (codes : List ℕ)
    (refused : ℕ) : Type 0 where
  pub each : (d : T) (i : ℕ) → i < length codes → Single i (slice_index_or items i d) (slice_index codes i)
  pub counted : refused ≡ refused_of codes

-- the sizes fit and the items are right, or the sizes do not fit and nothing has changed
abbrev pub ItemsEnd : (T : Type 0) → Type 0 → (ℕ → T → ℕ → Type 0) → List T → List T → List ℕ → List ℕ → ℕ → ℕ → ℕ
    → Type 0
ItemsEnd T Fit Single old new olds codes refused refused' code =
    (Fit × (code ≡ 0) × AreItems T Single new codes refused')
    ⊎ ((¬ Fit) × (code ≡ refusal_code BadRows) × (new ≡ old) × (codes ≡ olds) × (refused' ≡ refused))

-- ---- comparing
-- the single call that compares, for the bits of a row
abbrev pub ComparesRow : List ℤ → FormatParts → List ℤ → FormatParts → ℕ → ℤ → ℕ → Type 0
ComparesRow a f b g i order code = EndsWith
    (IsCompared f g (slice_index_or a i (pos 0)) (slice_index_or b i (pos 0)))
    (CompareIsRefused f g (slice_index_or a i (pos 0)) (slice_index_or b i (pos 0))) (pos 0) order code

-- there are as many bits on each side as orders and codes
pub record HavePairs (a b orders : List ℤ) (codes : List ℕ) : Type 0 where
  pub left : length a ≡ length codes
  pub right : length b ≡ length codes
  pub same : length orders ≡ length codes

-- ---- printing to places
-- the bits with this many places, rounded in the mode of this code, were put into the row; or the code is that of a
-- refusal, and the row is unchanged
abbrev pub PrintsPlaces : FormatParts → ℕ → ℕ → ℤ → List ℕ → List ℕ → ℕ → Type 0
PrintsPlaces f places mode bits old new code =
    ((text : List ℕ) × IsPrintedTo f bits places mode text × PutsRow text old new code)
    ⊎ ((refusal : Refusal) × (code ≡ refusal_code refusal) × PlacesIsRefused f bits places mode refusal × (new ≡ old))

-- each row and its code are right, and `refused` counts the refused rows
pub record ArePlaces (f : FormatParts) (places mode : ℕ) (bits : List ℤ) (size : ℕ) (old new codes : List ℕ)
    (refused : ℕ) : Type 0 where
  pub each : (i : ℕ) → i < length codes → PrintsPlaces f places mode (slice_index_or bits i (pos 0)) (row_at old size i)
      (row_at new size i) (slice_index codes i)
  pub counted : refused ≡ refused_of codes

-- the sizes fit and the rows are right, or the sizes do not fit and nothing has changed
abbrev pub PlacesEnd : FormatParts → ℕ → ℕ → List ℤ → ℕ → List ℕ → List ℕ → List ℕ → List ℕ → ℕ → ℕ → ℕ → Type 0
PlacesEnd f places mode bits size old new olds codes refused refused' code =
    (HaveTexts bits old size olds × (code ≡ 0) × ArePlaces f places mode bits size old new codes refused')
    ⊎ ((¬ HaveTexts bits old size olds) × (code ≡ refusal_code BadRows) × (new ≡ old) × (codes ≡ olds)
    × (refused' ≡ refused))
