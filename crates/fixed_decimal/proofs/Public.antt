-- For the proofs of dependent crates: a numeral is read as at most one number of units.
use Rattle.std.specs.Prelude.{◌≡◌, ℕ, ℤ}
use Rattle.fixed_bits.specs.declared.mode.ReadMode.{ReadMode}
use Rattle.fixed_decimal.specs.Decimals.{IsReadDecimal}
use Rattle.fixed_decimal.proofs.LawLemmas
use Rattle.fixed_numeral.specs.Numeral.{Parts}

pub read_decimal_unique : (mode : ReadMode) (p : Parts) (n : ℕ) (v w : ℤ) → IsReadDecimal mode p n v → IsReadDecimal mode p n w → v ≡ w
read_decimal_unique = LawLemmas.read_decimal_unique
