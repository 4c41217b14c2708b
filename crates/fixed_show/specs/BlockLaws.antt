-- A text has one block or object for an answer.
use Rattle.std.specs.Prelude.{◌≡◌, Bool, List, true, ℕ}
use Rattle.fixed_bits.specs.Formats.{FormatParts}
use Rattle.fixed_bits.specs.Ranges.{IsWidth}
use Rattle.fixed_bits.specs.declared.format.Policy.{Policy}
use Rattle.fixed_bits.specs.declared.mode.ReadMode.{ReadMode}
use Rattle.fixed_numeral.specs.declared.radix.Radix.{Radix}
use Rattle.fixed_show.specs.BitsBlock.{IsBitsBlock, IsBitsObject}
use Rattle.fixed_show.specs.ShowBlock.{IsShowBlock, IsShowObject}

-- a word has one block
abbrev pub BitsBlockIsTheOne : Type 0
BitsBlockIsTheOne = (bare : Radix) (f : FormatParts) (text : List ℕ) (o p : Bool) (a b : List ℕ) → IsWidth f.width
    → IsBitsBlock bare f text o a → IsBitsBlock bare f text p b → (o ≡ p) × (a ≡ b)

-- a numeral has one block
abbrev pub ShowBlockIsTheOne : Type 0
ShowBlockIsTheOne = (mode : ReadMode) (r : Radix) (bytes : List ℕ) (f : FormatParts) (policy : Policy) (o p : Bool)
    (a b : List ℕ) → IsWidth f.width → IsShowBlock mode r bytes f policy o a → IsShowBlock mode r bytes f policy p b
    → (o ≡ p) × (a ≡ b)

-- a refused numeral has one block, whatever the width
abbrev pub ShowRefusalIsTheOne : Type 0
ShowRefusalIsTheOne = (mode : ReadMode) (r : Radix) (bytes : List ℕ) (f : FormatParts) (policy : Policy) (p : Bool)
    (a b : List ℕ) → IsShowBlock mode r bytes f policy true a → IsShowBlock mode r bytes f policy p b
    → (p ≡ true) × (a ≡ b)

-- a numeral has one object
abbrev pub ShowObjectIsTheOne : Type 0
ShowObjectIsTheOne = (mode : ReadMode) (r : Radix) (bytes : List ℕ) (f : FormatParts) (policy : Policy) (o p : Bool)
    (a b : List ℕ) → IsWidth f.width → IsShowObject mode r bytes f policy o a → IsShowObject mode r bytes f policy p b
    → (o ≡ p) × (a ≡ b)

-- a word has one object
abbrev pub BitsObjectIsTheOne : Type 0
BitsObjectIsTheOne = (bare : Radix) (f : FormatParts) (text : List ℕ) (o p : Bool) (a b : List ℕ) → IsWidth f.width
    → IsBitsObject bare f text o a → IsBitsObject bare f text p b → (o ≡ p) × (a ≡ b)
