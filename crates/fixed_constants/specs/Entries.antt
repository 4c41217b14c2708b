-- Lists that are the constants of some text.
use Rattle.std.specs.Prelude.{List, [], ◌∷◌}
use Rattle.fixed_bits.specs.Formats.{IsTypeFormat}
use Rattle.fixed_bits.specs.Ranges.{IsInRange}
use Rattle.fixed_constants.specs.Constants.{ConstantParts, HasName, IsName}

-- a name, a format, and bits in its range
pub record IsEntry (c : ConstantParts) : Type 0 where
  pub name : IsName c.name
  pub format : IsTypeFormat c.format.width c.format.frac
  pub bits : IsInRange c.format.signed c.format.width c.bits

-- such constants with different names
abbrev pub AreEntries : List ConstantParts → Type 0
AreEntries [] = Unit {0}
AreEntries (c ∷ constants) = IsEntry c × (¬ HasName c.name constants) × AreEntries constants
