-- A numeral is read as at most one number of units.
use Rattle.std.proofs.Common.{◌≡◌, ℕ, ◌*◌, ◌^◌, ℤ, refl, sym, ap, ◌∙◌}
use Rattle.fixed_bits.proofs.Public.{rounded_exists, rounded_unique}
use Rattle.fixed_bits.specs.declared.mode.ReadMode.{ReadMode}
use Rattle.fixed_decimal.specs.Decimals.{IsReadDecimal}
use Rattle.fixed_decimal.specs.Laws.{ReadDecimalIsTheOne}
use Rattle.fixed_numeral.proofs.Public.{magnitude_pos}
use Rattle.fixed_numeral.specs.Numeral.{Parts, is_minus, signed}
use Rattle.fixed_numeral.specs.Value.{magnitude}
use Rattle.fixed_numeral.specs.declared.radix.Radix.TheVariants.{Dec}

pub read_decimal_unique : (mode : ReadMode) (p : Parts) (n : ℕ) (v w : ℤ) → IsReadDecimal mode p n v → IsReadDecimal mode p n w → v ≡ w
read_decimal_unique mode p n v w g h = g.value ∙ ap (signed p.sign) (rounded_unique mode (is_minus p.sign) ((magnitude Dec p).num * 10 ^ n) (magnitude Dec p).den g.units h.units (magnitude_pos Dec p) g.rounded h.rounded) ∙ sym h.value

pub read_decimal_is_the_one : ReadDecimalIsTheOne
read_decimal_is_the_one mode p n =
    let found = rounded_exists mode (is_minus p.sign) ((magnitude Dec p).num * 10 ^ n) (magnitude Dec p).den (magnitude_pos Dec p) in
    let read : IsReadDecimal mode p n (signed p.sign found.0) = record { units = found.0; rounded = found.1; value = refl } in
    (signed p.sign found.0, read, λ w h. read_decimal_unique mode p n w (signed p.sign found.0) h read)
