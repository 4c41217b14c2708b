-- Floats whose number in a format is short.
use Rattle.std.specs.Prelude.{ℕ, ◌+◌, ◌≤◌}
use Rattle.fixed_bits.specs.Numbers.{with_sign}
use Rattle.fixed_bits.specs.declared.mode.ReadMode.{ReadMode}
use Rattle.fixed_float.specs.Floats.{IsFinite, IsReadFloat, scale, unit_scale}
use Rattle.fixed_float.specs.declared.layout.FloatLayout.{FloatLayout}
use Rattle.fixed_float.specs.declared.short.ShortNumber.{ShortNumber}

-- the number in ulps of 2^-f has at most seven bits more than the significand; infinities and NaNs are never short
abbrev pub IsShort : FloatLayout → ℕ → ℕ → Type 0
IsShort layout bits f = scale layout bits + f ≤ unit_scale layout + 7

-- `found` is the read number of a finite float
pub record IsShortReading (mode : ReadMode) (layout : FloatLayout) (bits f : ℕ) (found : ShortNumber) : Type 0 where
  pub finite : IsFinite layout bits
  pub read : IsReadFloat mode layout bits f (with_sign found.negative found.magnitude)
