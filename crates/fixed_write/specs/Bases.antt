-- The bases of exact texts.
use Rattle.std.specs.Prelude.{ℕ, Bool, true, false}
use Rattle.fixed_write.specs.declared.in_place.Base.{Base}
use Rattle.fixed_write.specs.declared.in_place.Base.TheVariants.{Bin, Oct, Dec, LowerHex, UpperHex}

abbrev pub number_of : Base → ℕ
number_of Bin = 2
number_of Oct = 8
number_of Dec = 10
number_of LowerHex = 16
number_of UpperHex = 16

abbrev pub has_capitals : Base → Bool
has_capitals Bin = false
has_capitals Oct = false
has_capitals Dec = false
has_capitals LowerHex = false
has_capitals UpperHex = true
