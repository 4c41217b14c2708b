-- Statements of this crate's laws.
use Rattle.std.specs.Prelude.{◌≡◌, ◌<◌, ◌^◌, ℕ, ℤ}
use Rattle.fixed_bits.specs.declared.mode.ReadMode.{ReadMode}
use Rattle.fixed_float.specs.Floats.{IsReadFloat, bits_of_float}
use Rattle.fixed_float.specs.Nearest.{IsExactFloat, IsNearestFloat}
use Rattle.fixed_float.specs.declared.layout.FloatLayout.{FloatLayout}

-- a float has exactly one read number
abbrev pub ReadFloatIsTheOne : Type 0
ReadFloatIsTheOne = (mode : ReadMode) (layout : FloatLayout) (bits f : ℕ) → (v : ℤ) × IsReadFloat mode layout bits f v
    × ((w : ℤ) → IsReadFloat mode layout bits f w → w ≡ v)

-- a float that is a number of a format is read as that number, in each mode
abbrev pub ExactIsReadBack : Type 0
ExactIsReadBack = (mode : ReadMode) (layout : FloatLayout) (b : ℤ) (f bits : ℕ) → IsExactFloat layout b f bits
    → IsReadFloat mode layout bits f b

-- at most one float is the nearest to a number of a format
abbrev pub NearestFloatIsTheOne : Type 0
NearestFloatIsTheOne = (layout : FloatLayout) (b : ℤ) (f x y : ℕ) → x < 2 ^ bits_of_float layout
    → y < 2 ^ bits_of_float layout → IsNearestFloat layout b f x → IsNearestFloat layout b f y → x ≡ y
