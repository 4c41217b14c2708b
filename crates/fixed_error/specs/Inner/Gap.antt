-- The gap between a numeral and its rounded number.
use Rattle.std.specs.Prelude.{◌≡◌, ℕ, ◌+◌, ◌*◌, ◌^◌, ◌≤◌, true, false, List, length, ℤ, if◌then◌else◌}
use Rattle.std.specs.Int.Digits.{number_from_digits}
use Rattle.fixed_bits.specs.declared.mode.ReadMode.{ReadMode}
use Rattle.fixed_numeral.specs.Numeral.{Parts, HasNumeral, base}
use Rattle.fixed_numeral.specs.Value.{magnitude}
use Rattle.fixed_numeral.specs.declared.radix.Radix.{Radix}
use Rattle.fixed_read.specs.Reading.{IsReadNumber}
use Rattle.fixed_error.specs.declared.gap.Gap.{Gap}
use Rattle.fixed_error.specs.declared.greater.Part.{Part}
use Rattle.fixed_error.specs.declared.sums.Sum.{Sum}

-- the gap between num / den and a number of ulps, from the fraction number / power
pub record IsGapOf (num den ulps power number : ℕ) (gap : Gap) : Type 0 where
  pub sum : ulps * den * power + gap.unit * number * den ≡ num * power + gap.whole * power * den
  pub down : gap.is_rounded_up ≡ false → gap.whole * power ≤ gap.unit * number
  pub up : gap.is_rounded_up ≡ true → gap.unit * number ≤ gap.whole * power

-- the gap between a numeral and its rounded number, from its digits after the point
pub record IsGap (mode : ReadMode) (r : Radix) (f : ℕ) (bytes : List ℕ) (digits : List ℕ) (gap : Gap) : Type 0 where
  pub parts : Parts
  pub numeral : HasNumeral r bytes parts
  pub number : ℤ
  pub read : IsReadNumber mode r parts f number
  pub is_gap : IsGapOf ((magnitude r parts).num * 2 ^ f) (magnitude r parts).den read.ulps (base r ^ length digits)
      (number_from_digits (base r) digits) gap
  pub unit_small : gap.unit ≤ 2 ^ 67
  pub whole_small : gap.whole ≤ 2 ^ 67

-- the greater and the lesser of the two parts that a gap lies between
abbrev pub greater_part : Gap → Part
greater_part gap = if gap.is_rounded_up then record { whole = gap.whole; factor = 0 }
    else record { whole = 0; factor = gap.unit }

abbrev pub less_part : Gap → Part
less_part gap = if gap.is_rounded_up then record { whole = 0; factor = gap.unit }
    else record { whole = gap.whole; factor = 0 }

abbrev pub sum_of : Part → Part → Sum
sum_of one other = record { whole = one.whole + other.whole; one = one.factor; other = other.factor }
