-- The result of the call over rows that prints decimals: each row as by the single call.
use Rattle.std.specs.Prelude.{◌≡◌, ◌⊎◌, ◌<◌, ℕ, ℤ, List, length, pos, slice_index, slice_index_or}
use Rattle.fixed_c.specs.Codes.{refusal_code}
use Rattle.fixed_c.specs.Decimals.{PrintsDecimal}
use Rattle.fixed_c.specs.Rows.{HaveTexts, refused_of, row_at}
use Rattle.fixed_c.specs.declared.refusal.Refusal.TheVariants.{BadRows}

-- each row and its code are as by the single call, and `refused` counts the refused rows
pub record AreDecimals (places : ℕ) (bits : List ℤ) (size : ℕ) (old new codes : List ℕ) (refused : ℕ) : Type 0 where
  pub each : (i : ℕ) → i < length codes → PrintsDecimal places (slice_index_or bits i (pos 0)) (row_at old size i)
      (row_at new size i) (slice_index codes i)
  pub counted : refused ≡ refused_of codes

-- the sizes fit and the rows are right, or the sizes do not fit and nothing has changed
abbrev pub DecimalsEnd : ℕ → List ℤ → ℕ → List ℕ → List ℕ → List ℕ → List ℕ → ℕ → ℕ → ℕ → Type 0
DecimalsEnd places bits size old new olds codes refused refused' code =
    (HaveTexts bits old size olds × (code ≡ 0) × AreDecimals places bits size old new codes refused')
    ⊎ ((¬ HaveTexts bits old size olds) × (code ≡ refusal_code BadRows) × (new ≡ old) × (codes ≡ olds)
    × (refused' ≡ refused))
