-- The error of a numeral, and the same in ulps, as its block gives them.
use Rattle.std.specs.Prelude.{ℕ, List, ℤ, Bool}
use Rattle.fixed_bits.specs.Formats.{FormatParts}
use Rattle.fixed_bits.specs.declared.format.Policy.{Policy}
use Rattle.fixed_bits.specs.declared.mode.ReadMode.{ReadMode}
use Rattle.fixed_numeral.specs.declared.radix.Radix.{Radix}
use Rattle.fixed_show.specs.ShortError.{IsErrorText}
use Rattle.fixed_show.specs.ShowBlock.{IsReadAs}
use Rattle.fixed_show.specs.declared.form.Form.TheVariants.{Lines}
use Rattle.fixed_show.specs.declared.measure.Measure.TheVariants.{Ulps, Value}

-- two texts give the error of the bits that a numeral is read as, and the same in ulps
pub record AreShownErrors (mode : ReadMode) (r : Radix) (bytes : List ℕ) (f : FormatParts) (policy : Policy)
    (error ulps : List ℕ) : Type 0 where
  pub bits : ℤ
  pub overflowed : Bool
  pub read : IsReadAs mode r bytes f policy bits overflowed
  pub is_error : IsErrorText Lines Value r read.parts f.frac bits error
  pub are_ulps : IsErrorText Lines Ulps r read.parts f.frac bits ulps
