-- A call over rows has one end, and so has a call for the name of a format.
use Rattle.std.specs.Prelude.{◌≡◌, ◌<◌, ℕ, ℤ, List, length, slice_index_or, pos, FitsSigned}
use Rattle.std.specs.Int.{w64}
use Rattle.fixed_bits.specs.Formats.{FormatParts}
use Rattle.fixed_c.specs.Laws.{EndIsTheOne, NumberInC, TextIsTheOne}
use Rattle.fixed_c.specs.Rows.{ConvertsRow, HaveBits, HaveRows, PrintedEnd, ReadsRow, RowsEnd}
use Rattle.fixed_c.specs.Texts.{PutsText}
use Rattle.fixed_c.specs.Words.{FormatIsRefused, IsFormatNamed, IsFormatText, WordIsRefused}
use Rattle.fixed_c.specs.declared.number.FixedNumber.{FixedNumber}

-- as many numbers as before, of 64 bits each
pub record AreInC (old new : List FixedNumber) : Type 0 where
  pub as_many : length new ≡ length old
  pub each : (d : FixedNumber) (i : ℕ) → i < length new → NumberInC (slice_index_or new i d)

-- two ends of a call over rows are the same
abbrev pub RowsEndOnce : Type 0 → (ℕ → FixedNumber → ℕ → Type 0) → List FixedNumber → List ℕ → Type 0
RowsEndOnce Fit Single old olds = (a b : List FixedNumber) (m n : List ℕ) (count x y code other : ℕ) → AreInC old a
    → AreInC old b → length m ≡ length olds → length n ≡ length olds → RowsEnd Fit Single old a olds m count x code
    → RowsEnd Fit Single old b olds n count y other → (code ≡ other) × (a ≡ b) × (m ≡ n) × (x ≡ y)

abbrev pub ReadRowsEndOnce : Type 0
ReadRowsEndOnce = (rows : List ℕ) (size radix : ℕ) (f : FormatParts) (policy mode : ℕ) (old : List FixedNumber)
    (olds : List ℕ) → RowsEndOnce (HaveRows rows size old olds) (ReadsRow rows size radix f policy mode) old olds

abbrev pub ConvertRowsEndOnce : Type 0
ConvertRowsEndOnce = (bits : List ℤ) (f g : FormatParts) (policy mode : ℕ) (old : List FixedNumber) (olds : List ℕ)
    → ((i : ℕ) → i < length bits → FitsSigned w64 (slice_index_or bits i (pos 0)))
    → RowsEndOnce (HaveBits bits old olds) (ConvertsRow bits f g policy mode) old olds

abbrev pub PrintRowsEndOnce : Type 0
PrintRowsEndOnce = (f : FormatParts) (bits : List ℤ) (size : ℕ) (old olds a b m n : List ℕ) (count x y code other : ℕ)
    → ((i : ℕ) → i < length bits → FitsSigned w64 (slice_index_or bits i (pos 0))) → length a ≡ length old
    → length b ≡ length old → length m ≡ length olds → length n ≡ length olds
    → PrintedEnd f bits size old a olds m count x code → PrintedEnd f bits size old b olds n count y other
    → (code ≡ other) × (a ≡ b) × (m ≡ n) × (x ≡ y)

-- a text is put into a buffer in one way
abbrev pub PutsOnce : Type 0
PutsOnce = (text old a b : List ℕ) (m n code other : ℕ) → PutsText text old a m code → PutsText text old b n other
    → (code ≡ other) × (a ≡ b) × (m ≡ n)

-- a word names one format
abbrev pub WordEndsOnce : Type 0
WordEndsOnce = (word : List ℕ) → EndIsTheOne (λ given. Unit {0}) (IsFormatNamed word) (WordIsRefused word)

-- a format has one word
abbrev pub FormatEndsOnce : Type 0
FormatEndsOnce = (f : FormatParts) → TextIsTheOne (λ word. IsFormatText word f) (FormatIsRefused f)
