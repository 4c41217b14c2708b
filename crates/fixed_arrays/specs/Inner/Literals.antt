-- The state while a file of named literals is read.
use Rattle.std.specs.Prelude.{◌≡◌, ℕ, List, [], ◌∷◌}
use Rattle.fixed_bits.specs.Formats.{FormatParts}
use Rattle.fixed_bits.specs.Ranges.{IsInRange}
use Rattle.fixed_constants.specs.Constants.{ConstantParts, IsConstantsOf}
use Rattle.fixed_arrays.specs.Literals.{AreOf, HasLiteralsFault}
use Rattle.fixed_arrays.specs.declared.fault.LiteralsFault.{LiteralsFault}
use Rattle.fixed_arrays.specs.declared.fault.LiteralsFault.TheVariants.{Empty, NoMemory, OtherFormat, Refused}

-- the bits of the constants are in range of the format
abbrev pub AreInRange : FormatParts → List ConstantParts → Type 0
AreInRange f [] = Unit {0}
AreInRange f (c ∷ constants) = IsInRange f.signed f.width c.bits × AreInRange f constants

-- these are the constants of the text, at least one, all of this format and in its range
pub record AreLiterals (text : List ℕ) (f : FormatParts) (constants : List ConstantParts) : Type 0 where
  pub are : IsConstantsOf text constants
  pub some : ¬ (constants ≡ [])
  pub one : AreOf f constants
  pub range : AreInRange f constants

-- why there is no array: a fault of the text, or lack of memory
abbrev pub HasLiteralsError : List ℕ → LiteralsFault → Type 0
HasLiteralsError text Empty = HasLiteralsFault text Empty
HasLiteralsError text (Refused p fault) = HasLiteralsFault text (Refused p fault)
HasLiteralsError text (OtherFormat p f) = HasLiteralsFault text (OtherFormat p f)
HasLiteralsError text NoMemory = Unit {0}
