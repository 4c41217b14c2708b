-- The results of calls over rows: each row as by the single call.
use Rattle.std.specs.Prelude.{◌≡◌, ◌⊎◌, ◌<◌, ◌≤◌, ◌+◌, ◌-◌, ◌*◌, ◌++◌, replicate, ◌==◌, if◌then◌else◌, ℕ, ℤ, pos, List}
use Rattle.std.specs.Prelude.{[], ◌∷◌, length, take, drop, slice_index, slice_index_or}
use Rattle.fixed_bits.specs.Formats.{FormatParts}
use Rattle.fixed_c.specs.Arguments.{Names}
use Rattle.fixed_c.specs.Codes.{refusal_code}
use Rattle.fixed_c.specs.Convert.{ConvertInIsRefused, IsConvertedIn, IsPrinted, PrintIsRefused}
use Rattle.fixed_c.specs.Outcome.{EndsWith}
use Rattle.fixed_c.specs.Read.{IsReadAs, ReadIsRefused}
use Rattle.fixed_c.specs.declared.number.FixedNumber.{FixedNumber}
use Rattle.fixed_c.specs.declared.refusal.Refusal.{Refusal}
use Rattle.fixed_c.specs.declared.refusal.Refusal.TheVariants.{BadRows, NoRoom}

-- the bytes before the first zero byte
abbrev pub before_zero : List ℕ → List ℕ
before_zero [] = []
before_zero (b ∷ bs) = if b == 0 then [] else b ∷ before_zero bs

-- the text of row `i`, for rows of `size` bytes
abbrev pub text_of_row : List ℕ → ℕ → ℕ → List ℕ
text_of_row rows size i = before_zero (take size (drop (i * size) rows))

-- the number of a row before the row is read
abbrev pub no_number : FixedNumber
no_number = record { bits = pos 0; overflowed = 0 }

-- how many of the codes are not 0
abbrev pub refused_of : List ℕ → ℕ
refused_of [] = 0
refused_of (c ∷ cs) = (if c == 0 then 0 else 1) + refused_of cs

-- each number and its code are as by the single call for that row, and `refused` counts the refused rows
pub record AreRows (Single : ℕ → FixedNumber → ℕ → Type 0) (numbers : List FixedNumber) (codes : List ℕ)
    (refused : ℕ) : Type 0 where
  pub each : (d : FixedNumber) (i : ℕ) → i < length codes → Single i (slice_index_or numbers i d) (slice_index codes i)
  pub counted : refused ≡ refused_of codes

-- the sizes fit and the rows are right, or the sizes do not fit and nothing has changed
abbrev pub RowsEnd : Type 0 → (ℕ → FixedNumber → ℕ → Type 0) → List FixedNumber → List FixedNumber → List ℕ → List ℕ → ℕ
    → ℕ → ℕ → Type 0
RowsEnd Fit Single old new olds codes refused refused' code = (Fit × (code ≡ 0) × AreRows Single new codes refused')
    ⊎ ((¬ Fit) × (code ≡ refusal_code BadRows) × (new ≡ old) × (codes ≡ olds) × (refused' ≡ refused))

-- the single call that reads, for the text of a row
abbrev pub ReadsRow : List ℕ → ℕ → ℕ → FormatParts → ℕ → ℕ → ℕ → FixedNumber → ℕ → Type 0
ReadsRow rows size radix f policy mode i number code = EndsWith
    (λ n. Names radix policy mode (IsReadAs (text_of_row rows size i) f n.bits n.overflowed))
    (ReadIsRefused (text_of_row rows size i) radix f policy mode) no_number number code

-- the single call that converts in a mode, for the bits of a row
abbrev pub ConvertsRow : List ℤ → FormatParts → FormatParts → ℕ → ℕ → ℕ → FixedNumber → ℕ → Type 0
ConvertsRow bits f g policy mode i number code = EndsWith
    (λ n. IsConvertedIn f g policy mode (slice_index_or bits i (pos 0)) n.bits n.overflowed)
    (ConvertInIsRefused f g policy mode (slice_index_or bits i (pos 0))) no_number number code

-- there are as many rows as numbers and codes
pub record HaveRows (rows : List ℕ) (size : ℕ) (numbers : List FixedNumber) (codes : List ℕ) : Type 0 where
  pub bytes : length rows ≡ size * length codes
  pub same : length numbers ≡ length codes

pub record HaveBits (bits : List ℤ) (numbers : List FixedNumber) (codes : List ℕ) : Type 0 where
  pub given : length bits ≡ length codes
  pub same : length numbers ≡ length codes

-- ---- printing
-- the bytes of row `i`, for rows of `size` bytes
abbrev pub row_at : List ℕ → ℕ → ℕ → List ℕ
row_at rows size i = take size (drop (i * size) rows)

-- the code is 0 and the row is the text followed by zero bytes, or there was no room for the text and the row is
-- unchanged
abbrev pub PutsRow : List ℕ → List ℕ → List ℕ → ℕ → Type 0
PutsRow text old new code = ((code ≡ 0) × (length text ≤ length old)
    × (new ≡ text ++ replicate (length old - length text) 0))
    ⊎ ((code ≡ refusal_code NoRoom) × (length old < length text) × (new ≡ old))

-- the shortest text of the bits was put into the row; or the code is that of a refusal, and the row is unchanged
abbrev pub PrintsRow : FormatParts → ℤ → List ℕ → List ℕ → ℕ → Type 0
PrintsRow f bits old new code = ((text : List ℕ) × IsPrinted f bits text × PutsRow text old new code)
    ⊎ ((refusal : Refusal) × (code ≡ refusal_code refusal) × PrintIsRefused f bits refusal × (new ≡ old))

-- there are as many bits and rows as codes
pub record HaveTexts (bits : List ℤ) (rows : List ℕ) (size : ℕ) (codes : List ℕ) : Type 0 where
  pub given : length bits ≡ length codes
  pub bytes : length rows ≡ size * length codes

-- each row and its code are right, and `refused` counts the refused rows
pub record ArePrinted (f : FormatParts) (bits : List ℤ) (size : ℕ) (old new codes : List ℕ) (refused : ℕ) : Type 0 where
  pub each : (i : ℕ) → i < length codes → PrintsRow f (slice_index_or bits i (pos 0)) (row_at old size i)
      (row_at new size i) (slice_index codes i)
  pub counted : refused ≡ refused_of codes

-- the sizes fit and the rows are right, or the sizes do not fit and nothing has changed
abbrev pub PrintedEnd : FormatParts → List ℤ → ℕ → List ℕ → List ℕ → List ℕ → List ℕ → ℕ → ℕ → ℕ → Type 0
PrintedEnd f bits size old new olds codes refused refused' code =
    (HaveTexts bits old size olds × (code ≡ 0) × ArePrinted f bits size old new codes refused')
    ⊎ ((¬ HaveTexts bits old size olds) × (code ≡ refusal_code BadRows) × (new ≡ old) × (codes ≡ olds)
    × (refused' ≡ refused))
