-- The constants of a text, or its first fault.
use Rattle.std.specs.Prelude.{◌≡◌, ◌⊎◌, ◌+◌, ◌≤◌, ◌<◌, ℕ, List, [], ◌∷◌, ◌++◌, ℤ, length, get_or, Result, Ok, Err}
use Rattle.fixed_bits.specs.Formats.{FormatParts}
use Rattle.fixed_bits.specs.Ranges.{IsInRange}
use Rattle.fixed_bits.specs.declared.mode.ReadMode.TheVariants.{NearestEven}
use Rattle.fixed_numeral.specs.Literal.{HasLiteral, HasLiteralCause, literal_radix}
use Rattle.fixed_numeral.specs.Numeral.{Parts}
use Rattle.fixed_numeral.specs.declared.error.ParseErrorKind.{ParseErrorKind}
use Rattle.fixed_numeral.specs.declared.error.ParseErrorKind.TheVariants.{Overflow}
use Rattle.fixed_read.specs.Reading.{IsReadNumber, IsReadOutOfRange}
use Rattle.fixed_respell.specs.LineWords.{HasWords, space}
use Rattle.fixed_respell.specs.Split.{count_of, IsSplit}
use Rattle.fixed_respell.specs.Words.{IsFormatWord}
use Rattle.line_engine.specs.Lines.{lines}
use Rattle.fixed_constants.specs.declared.fault.ConstantFault.{ConstantFault}
use Rattle.fixed_constants.specs.declared.fault.ConstantFault.TheVariants.{MissingField, BadName, MissingEquals}
use Rattle.fixed_constants.specs.declared.fault.ConstantFault.TheVariants.{BadFormat, BadLiteral, Duplicate}
use Rattle.fixed_constants.specs.declared.fault.ConstantsError.{ConstantsError}
use Rattle.fixed_constants.specs.declared.fault.ConstantsError.TheVariants.{Refused, NoMemory}

-- a name, a format, and bits of it
pub record ConstantParts : Type 0 where
  pub name : List ℕ
  pub format : FormatParts
  pub bits : ℤ

-- ---- a line
-- a line that is empty or begins with '#' declares nothing
abbrev pub IsPassedOver : List ℕ → Type 0
IsPassedOver line = (line ≡ []) ⊎ ((rest : List ℕ) × (line ≡ 35 ∷ rest))

abbrev pub IsDigit : ℕ → Type 0
IsDigit b = (48 ≤ b) × (b ≤ 57)

-- an ASCII letter, a digit or '_'
abbrev pub IsNameByte : ℕ → Type 0
IsNameByte b = ((65 ≤ b) × (b ≤ 90)) ⊎ (((97 ≤ b) × (b ≤ 122)) ⊎ (IsDigit b ⊎ (b ≡ 95)))

abbrev pub AreNameBytes : List ℕ → Type 0
AreNameBytes bytes = (i : ℕ) → i < length bytes → IsNameByte (get_or bytes i 0)

-- a name is 1 to 64 ASCII letters, digits and '_', and does not begin with a digit
pub record IsName (word : List ℕ) : Type 0 where
  pub some : 0 < length word
  pub short : length word ≤ 64
  pub first : ¬ IsDigit (get_or word 0 0)
  pub bytes : AreNameBytes word

abbrev pub equals_sign : List ℕ
equals_sign = 61 ∷ []

-- the words before the first three spaces of a line that is not passed over, and the rest after the third
pub record Fields (line : List ℕ) : Type 0 where
  pub spoken : ¬ IsPassedOver line
  pub name : List ℕ
  pub equals : List ℕ
  pub literal : List ℕ
  pub format : List ℕ
  pub has : HasWords line (name ∷ equals ∷ literal ∷ []) format

-- the first word is a name, and the second the equals sign
pub record HasHead (line : List ℕ) (fields : Fields line) : Type 0 where
  pub name : IsName fields.name
  pub equals : fields.equals ≡ equals_sign

-- the literal is read as these bits of the format
pub record IsLiteralOf (f : FormatParts) (bytes : List ℕ) (bits : ℤ) : Type 0 where
  pub parts : Parts
  pub has : HasLiteral f.signed bytes parts
  pub read : IsReadNumber NearestEven (literal_radix f.signed bytes) parts f.frac bits
  pub in_range : IsInRange f.signed f.width bits

-- the bytes are refused as a literal of the format, for this reason
abbrev pub IsRefusedLiteral : FormatParts → List ℕ → ParseErrorKind → Type 0
IsRefusedLiteral f bytes kind = HasLiteralCause f.signed bytes kind
    ⊎ ((kind ≡ Overflow) × IsReadOutOfRange NearestEven (literal_radix f.signed bytes)
    (HasLiteral f.signed bytes) f.frac f.signed f.width)

-- the line spells the constant, whatever the other lines are
pub record Spells (line : List ℕ) (c : ConstantParts) : Type 0 where
  pub fields : Fields line
  pub head : HasHead line fields
  pub format : IsFormatWord fields.format c.format
  pub literal : IsLiteralOf c.format fields.literal c.bits
  pub name : fields.name ≡ c.name

-- ---- names of earlier lines
-- the word before the first space of a line that is not passed over
pub record Names (line name : List ℕ) : Type 0 where
  pub spoken : ¬ IsPassedOver line
  pub rest : List ℕ
  pub split : IsSplit space line name rest

-- the first of the lines, numbered from `n` on, that names this is line `p`
abbrev pub NamedFrom : ℕ → List (List ℕ) → List ℕ → ℕ → Type 0
NamedFrom n [] name p = ⊥
NamedFrom n (line ∷ lines) name p = (Names line name × (p ≡ n)) ⊎ ((¬ Names line name) × NamedFrom (n + 1) lines name p)

-- the first of the lines, numbered from 1, that names this is line `p`
abbrev pub IsNamedOn : List (List ℕ) → List ℕ → ℕ → Type 0
IsNamedOn before name p = NamedFrom 1 before name p

-- ---- the fault of a line
-- a line after the lines `before` has this fault, and none that is checked earlier
abbrev pub HasFault : List (List ℕ) → List ℕ → ConstantFault → Type 0
HasFault before line MissingField = (¬ IsPassedOver line) × (count_of space line < 3)
HasFault before line BadName = (x : Fields line) × (¬ IsName x.name)
HasFault before line MissingEquals = (x : Fields line) × IsName x.name × (¬ (x.equals ≡ equals_sign))
HasFault before line BadFormat = (x : Fields line) × HasHead line x × ((f : FormatParts) → ¬ IsFormatWord x.format f)
HasFault before line (BadLiteral kind) = (x : Fields line) × HasHead line x × (f : FormatParts)
    × IsFormatWord x.format f × IsRefusedLiteral f x.literal kind
HasFault before line (Duplicate first) = (c : ConstantParts) × Spells line c × IsNamedOn before c.name first

-- the meaning of a line after the lines `before`: a constant, or a fault
abbrev pub Says : List (List ℕ) → List ℕ → Result ConstantParts ConstantFault → Type 0
Says before line (Ok c) = Spells line c × ((p : ℕ) → ¬ IsNamedOn before c.name p)
Says before line (Err fault) = HasFault before line fault

-- ---- a text
-- lines after the lines `before` declare the constants, in order
abbrev pub Declare : List (List ℕ) → List (List ℕ) → List ConstantParts → Type 0
Declare before [] constants = constants ≡ []
Declare before (line ∷ lines) constants = (IsPassedOver line × Declare (before ++ line ∷ []) lines constants)
    ⊎ ((c : ConstantParts) × (more : List ConstantParts) × Says before line (Ok c) × (constants ≡ c ∷ more)
    × Declare (before ++ line ∷ []) lines more)

-- the first fault of lines after the lines `before` is this one, on line `p`
abbrev pub FailAt : List (List ℕ) → List (List ℕ) → ℕ → ConstantFault → Type 0
FailAt before [] p fault = ⊥
FailAt before (line ∷ lines) p fault = (Says before line (Err fault) × (p ≡ length before + 1))
    ⊎ ((IsPassedOver line ⊎ ((c : ConstantParts) × Says before line (Ok c)))
    × FailAt (before ++ line ∷ []) lines p fault)

-- the constants of a text
abbrev pub IsConstantsOf : List ℕ → List ConstantParts → Type 0
IsConstantsOf text constants = Declare [] (lines text) constants

-- the first line of a text with a fault, and the first fault of that line
abbrev pub IsFaultOf : List ℕ → ℕ → ConstantFault → Type 0
IsFaultOf text p fault = FailAt [] (lines text) p fault

-- the meaning of an error of a text
abbrev pub IsErrorOf : List ℕ → ConstantsError → Type 0
IsErrorOf text (Refused p fault) = IsFaultOf text p fault
IsErrorOf text NoMemory = Unit {0}

-- ---- looking a name up
-- one of the constants has the name
abbrev pub HasName : List ℕ → List ConstantParts → Type 0
HasName name [] = ⊥
HasName name (c ∷ constants) = (c.name ≡ name) ⊎ HasName name constants

-- the first constant with the name
abbrev pub IsFirstNamed : List ℕ → List ConstantParts → ConstantParts → Type 0
IsFirstNamed name [] c = ⊥
IsFirstNamed name (d ∷ constants) c = ((d.name ≡ name) × (c ≡ d))
    ⊎ ((¬ (d.name ≡ name)) × IsFirstNamed name constants c)
