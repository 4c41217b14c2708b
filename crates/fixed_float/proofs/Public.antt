-- For the proofs of dependent crates: a float reads as one number, and a number has one nearest float.
use Rattle.std.specs.Prelude.{◌≡◌, ℕ, ℤ}
use Rattle.fixed_bits.specs.declared.mode.ReadMode.{ReadMode}
use Rattle.fixed_float.specs.Floats.{IsReadFloat}
use Rattle.fixed_float.specs.Laws.{NearestFloatIsTheOne}
use Rattle.fixed_float.specs.declared.layout.FloatLayout.{FloatLayout}
use Rattle.fixed_float.proofs.LawLemmas
use Rattle.fixed_float.proofs.UniqueLemmas

pub read_float_unique : (mode : ReadMode) (layout : FloatLayout) (bits f : ℕ) (v w : ℤ) → IsReadFloat mode layout bits f v → IsReadFloat mode layout bits f w → v ≡ w
read_float_unique = LawLemmas.read_float_unique

pub nearest_float_is_the_one : NearestFloatIsTheOne
nearest_float_is_the_one = UniqueLemmas.nearest_float_is_the_one
