-- The error of a rounded numeral, cut toward zero to whole parts of an ulp.
use Rattle.std.specs.Prelude.{ℕ, ◌-◌, ◌*◌, ◌^◌, List, ℤ, if◌then◌else◌}
use Rattle.fixed_bits.specs.Rounded.{IsNotAbove}
use Rattle.fixed_bits.specs.declared.mode.ReadMode.{ReadMode}
use Rattle.fixed_numeral.specs.Numeral.{HasNumeral, Parts, base, is_minus}
use Rattle.fixed_numeral.specs.Value.{magnitude}
use Rattle.fixed_numeral.specs.declared.radix.Radix.{Radix}
use Rattle.fixed_read.specs.Reading.{IsReadNumber}
use Rattle.fixed_error.specs.Errors.{block}
use Rattle.fixed_error.specs.declared.cut.CutError.{CutError}

-- the number of parts of an ulp: 10^18 in radix 10, else 2^60
unfoldable pub cut_parts : Radix → ℕ
cut_parts r = base r ^ block r

-- bytes are a numeral, and e is the error if it is rounded in the mode to a whole number of ulps of 2^-f: the parts by
-- which the ulps are more than the magnitude and those by which they are less, each rounded down, with the numeral's
-- sign
pub record IsCutError (mode : ReadMode) (r : Radix) (f : ℕ) (bytes : List ℕ) (e : CutError) : Type 0 where
  pub parts : Parts
  pub numeral : HasNumeral r bytes parts
  pub number : ℤ
  pub read : IsReadNumber mode r parts f number
  pub over : IsNotAbove ((read.ulps * (magnitude r parts).den - (magnitude r parts).num * 2 ^ f) * cut_parts r)
      (magnitude r parts).den (if is_minus parts.sign then e.below else e.above)
  pub under : IsNotAbove (((magnitude r parts).num * 2 ^ f - read.ulps * (magnitude r parts).den) * cut_parts r)
      (magnitude r parts).den (if is_minus parts.sign then e.above else e.below)
