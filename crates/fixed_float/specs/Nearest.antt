-- The float nearest to a number of a format.
use Rattle.std.specs.Prelude.{◌≡◌, ◌≢◌, ℕ, ◌*◌, ◌^◌, ◌≤◌, ℤ, unsigned_abs}
use Rattle.std.specs.Int as Int
use Rattle.fixed_bits.specs.Nearest.{IsEven, distance}
use Rattle.fixed_float.specs.Floats.{IsFinite, is_negative, magnitude, significand}
use Rattle.fixed_float.specs.declared.layout.FloatLayout.{FloatLayout}
use Rattle.fixed_numeral.specs.Value.{Fraction}

-- the distance between two non-negative numbers, times both denominators
abbrev pub fraction_distance : Fraction → Fraction → ℕ
fraction_distance a b = distance (a.num * b.den) (b.num * a.den)

-- the float is nearest to a non-negative number, and of two equally near it is the one with an even significand
pub record IsNearestMagnitude (layout : FloatLayout) (number : Fraction) (bits : ℕ) : Type 0 where
  pub finite : IsFinite layout bits
  pub nearest : (other : ℕ) → IsFinite layout other
      → fraction_distance number (magnitude layout bits) ≤ fraction_distance number (magnitude layout other)
  pub tie : (other : ℕ) → IsFinite layout other
      → fraction_distance number (magnitude layout bits) ≡ fraction_distance number (magnitude layout other)
      → (magnitude layout other).num ≢ (magnitude layout bits).num → IsEven (significand layout bits)

-- the float is nearest to b / 2^f and has its sign; the float for 0 has none
pub record IsNearestFloat (layout : FloatLayout) (b : ℤ) (f bits : ℕ) : Type 0 where
  pub sign : is_negative layout bits ≡ Int.is_negative b
  pub nearest : IsNearestMagnitude layout (record { num = unsigned_abs b; den = 2 ^ f }) bits

-- the float is b / 2^f
pub record IsExactFloat (layout : FloatLayout) (b : ℤ) (f bits : ℕ) : Type 0 where
  pub finite : IsFinite layout bits
  pub sign : is_negative layout bits ≡ Int.is_negative b
  pub same : unsigned_abs b * (magnitude layout bits).den ≡ (magnitude layout bits).num * 2 ^ f
