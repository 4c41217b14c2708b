-- A part of a register word: some of its bits, possibly after its bytes are reversed.
use Rattle.std.specs.Prelude.{◌≡◌, ℕ, zero, suc, ◌+◌, ◌*◌, ◌/◌, ◌%◌, ◌^◌, ◌<◌, ◌≤◌, Bool, true, false, List, length}
use Rattle.std.specs.Prelude.{Option, Some, None, ℤ, pos, codes}
use Rattle.fixed_bits.specs.Formats.{FormatParts}
use Rattle.fixed_bits.specs.Images.{IsWrapped}
use Rattle.fixed_numeral.specs.declared.radix.Radix.{Radix}
use Rattle.fixed_numeral.specs.declared.radix.Radix.TheVariants.{Bin, Oct, Dec, Hex}
use Rattle.fixed_show.specs.BitsBlock.{AreValues, fault_message}
use Rattle.fixed_show.specs.Forms.{refusal}
use Rattle.fixed_show.specs.JsonText.{object_text}
use Rattle.fixed_show.specs.declared.form.Form.{Form}
use Rattle.fixed_show.specs.declared.form.Form.TheVariants.{Lines, Members}
use Rattle.fixed_show.specs.WordText.{HasWordFault, IsWordText, has_sign, word_digits, word_radix}
use Rattle.fixed_show.specs.declared.parts.Part.{Part}
use Rattle.fixed_show.specs.declared.parts.PartFault.{PartFault}
use Rattle.fixed_show.specs.declared.parts.PartFault.TheVariants.{Signed, NoWord, NotBytes, TooWide}
use Rattle.fixed_show.specs.declared.words.WordFault.{WordFault}
use Rattle.fixed_show.specs.declared.words.WordFault.TheVariants.{MisplacedUnderscore, InvalidDigit, NoDigits}
use Rattle.fixed_show.specs.declared.words.WordFault.TheVariants.{TooWide as WideWord, OutOfRange}

-- ---- the whole word
-- the word has up to 64 bits
abbrev pub longest : FormatParts
longest = record { signed = false; width = 64; frac = 0 }

-- the text has no sign and spells the number `n` of at most 64 bits
pub record IsLongWord (bare : Radix) (text : List ℕ) (n : ℕ) : Type 0 where
  pub plain : has_sign text ≡ false
  pub spells : IsWordText bare text n
  pub fits : n < 2 ^ 64

-- ---- the bytes in reverse
-- the number of the `count` lowest bytes of `n`, reversed
unfoldable pub reversed_bytes : ℕ → ℕ → ℕ
reversed_bytes zero n = 0
reversed_bytes (suc count) n = n % 256 * 256 ^ count + reversed_bytes count (n / 256)

-- this many digits of a radix are all digits of `count` bytes: two for a byte in radix 16, and eight in radix 2
abbrev pub WritesBytes : Radix → ℕ → ℕ → Type 0
WritesBytes Bin digits count = digits ≡ 8 * count
WritesBytes Oct digits count = ⊥
WritesBytes Dec digits count = ⊥
WritesBytes Hex digits count = digits ≡ 2 * count

-- the word is written as whole bytes, 1 to 8, that contain the lowest `reach` bits, and `m` is `n` with these bytes
-- reversed
pub record IsReversed (bare : Radix) (text : List ℕ) (reach n m : ℕ) : Type 0 where
  pub count : ℕ
  pub bytes : WritesBytes (word_radix bare text) (length (word_digits bare text)) count
  pub most : count ≤ 8
  pub reaches : reach ≤ 8 * count
  pub number : m ≡ reversed_bytes count n

-- `m` is the word `n`, with its bytes reversed if requested
abbrev pub IsOrdered : Bool → Radix → List ℕ → ℕ → ℕ → ℕ → Type 0
IsOrdered false bare text reach n m = m ≡ n
IsOrdered true bare text reach n m = IsReversed bare text reach n m

-- ---- the selected bits
-- the lowest selected bit
abbrev pub lowest_bit : Option ℕ → ℕ
lowest_bit None = 0
lowest_bit (Some low) = low

-- the number of low bits of the word that contain the selected bits
abbrev pub reach_of : Part → FormatParts → ℕ
reach_of part f = lowest_bit part.low + f.width

-- `p` is `n`, of at most `width` bits, or the `width` bits of `n` from bit `low` on
abbrev pub AreBits : Option ℕ → ℕ → ℕ → ℕ → Type 0
AreBits None width n p = (p ≡ n) × (n < 2 ^ width)
AreBits (Some low) width n p = p ≡ n / 2 ^ low % 2 ^ width

-- ---- parts of words
-- the requested part of the word `text` is bits of the format, which are `v` in two's complement
pub record IsPart (bare : Radix) (part : Part) (f : FormatParts) (text : List ℕ) (v : ℤ) : Type 0 where
  pub word : ℕ
  pub is_word : IsLongWord bare text word
  pub ordered : ℕ
  pub is_ordered : IsOrdered part.is_reversed bare text (reach_of part f) word ordered
  pub bits : ℕ
  pub are_bits : AreBits part.low f.width ordered bits
  pub is : IsWrapped f.signed f.width (pos bits) v

-- the text is a word whose bytes cannot be reversed
pub record IsUnordered (bare : Radix) (part : Part) (f : FormatParts) (text : List ℕ) : Type 0 where
  pub word : ℕ
  pub is_word : IsLongWord bare text word
  pub none : (m : ℕ) → ¬ IsOrdered part.is_reversed bare text (reach_of part f) word m

-- no field is requested, and the word has more bits than the format
pub record IsOverlong (bare : Radix) (part : Part) (f : FormatParts) (text : List ℕ) : Type 0 where
  pub word : ℕ
  pub is_word : IsLongWord bare text word
  pub ordered : ℕ
  pub is_ordered : IsOrdered part.is_reversed bare text (reach_of part f) word ordered
  pub none : (p : ℕ) → ¬ AreBits part.low f.width ordered p

-- `fault` says why the text has no such part: the first of these causes that applies
abbrev pub HasPartFault : Radix → Part → FormatParts → List ℕ → PartFault → Type 0
HasPartFault bare part f text Signed = has_sign text ≡ true
HasPartFault bare part f text (NoWord fault) = (has_sign text ≡ false) × HasWordFault bare longest text fault
HasPartFault bare part f text NotBytes = IsUnordered bare part f text
HasPartFault bare part f text TooWide = IsOverlong bare part f text

-- ---- blocks
-- the message for a text that is not a word of 64 bits
abbrev pub long_message : WordFault → List ℕ
long_message MisplacedUnderscore = fault_message MisplacedUnderscore
long_message InvalidDigit = fault_message InvalidDigit
long_message NoDigits = fault_message NoDigits
long_message WideWord = codes "word is wider than 64 bits"
long_message OutOfRange = fault_message OutOfRange

-- the message of a fault
abbrev pub part_message : PartFault → List ℕ
part_message Signed = codes "word has a sign"
part_message (NoWord fault) = long_message fault
part_message NotBytes = codes "digits are not those of whole bytes, 1 to 8, that hold the field"
part_message TooWide = codes "word is wider than the format"

-- the part of the word is the number `bits`, and the facts give its values
pub record IsShownPart (form : Form) (bare : Radix) (part : Part) (f : FormatParts) (text facts : List ℕ) : Type 0 where
  pub bits : ℤ
  pub is_part : IsPart bare part f text bits
  pub values : AreValues form f bits facts

-- the word has no such part, and the facts say why
pub record IsRefusedPart (form : Form) (bare : Radix) (part : Part) (f : FormatParts)
    (text facts : List ℕ) : Type 0 where
  pub fault : PartFault
  pub is_fault : HasPartFault bare part f text fault
  pub facts_are : facts ≡ refusal form (part_message fault)

-- the facts answer a word after a part was requested, and `refused` says whether it is refused
abbrev pub ArePartFacts : Form → Radix → Part → FormatParts → List ℕ → Bool → List ℕ → Type 0
ArePartFacts form bare part f text true facts = IsRefusedPart form bare part f text facts
ArePartFacts form bare part f text false facts = IsShownPart form bare part f text facts

-- `block` is the answer in lines
abbrev pub IsPartBlock : Radix → Part → FormatParts → List ℕ → Bool → List ℕ → Type 0
IsPartBlock bare part f text refused block = ArePartFacts Lines bare part f text refused block

-- `object` is the answer as an object of JSON
pub record IsPartObject (bare : Radix) (part : Part) (f : FormatParts) (text : List ℕ) (refused : Bool)
    (object : List ℕ) : Type 0 where
  pub members : List ℕ
  pub are_facts : ArePartFacts Members bare part f text refused members
  pub object_is : object ≡ object_text text members
