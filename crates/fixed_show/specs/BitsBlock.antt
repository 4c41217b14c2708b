-- The number that a register word stands for.
use Rattle.std.specs.Prelude.{◌≡◌, ℕ, List, ◌++◌, ℤ, Bool, true, false, codes}
use Rattle.std.specs.Fmt.{signed_decimal}
use Rattle.fixed_bits.specs.Formats.{FormatParts}
use Rattle.fixed_numeral.specs.declared.radix.Radix.{Radix}
use Rattle.fixed_write.specs.Places.{IsExactText}
use Rattle.fixed_write.specs.Texts.{IsShortestText}
use Rattle.fixed_show.specs.Blocks.{IsHexText}
use Rattle.fixed_show.specs.Forms.{fact, refusal}
use Rattle.fixed_show.specs.JsonText.{object_text}
use Rattle.fixed_show.specs.declared.form.Form.{Form}
use Rattle.fixed_show.specs.declared.form.Form.TheVariants.{Lines, Members}
use Rattle.fixed_show.specs.WordText.{HasWordFault, IsWord}
use Rattle.fixed_show.specs.declared.words.WordFault.{WordFault}
use Rattle.fixed_show.specs.declared.words.WordFault.TheVariants.{MisplacedUnderscore, InvalidDigit, NoDigits}
use Rattle.fixed_show.specs.declared.words.WordFault.TheVariants.{TooWide, OutOfRange}

-- the message of a fault
abbrev pub fault_message : WordFault → List ℕ
fault_message MisplacedUnderscore = codes "misplaced underscore found in string"
fault_message InvalidDigit = codes "invalid digit found in string"
fault_message NoDigits = codes "string has no digits"
fault_message TooWide = codes "word is wider than the format"
fault_message OutOfRange = codes "number is out of the format's range"

-- the text gives the exact value of bits in a format, their shortest text, and the bits in decimal and in hexadecimal
pub record AreValues (form : Form) (f : FormatParts) (bits : ℤ) (text : List ℕ) : Type 0 where
  pub value : List ℕ
  pub is_value : IsExactText 10 false bits f.frac value
  pub shortest : List ℕ
  pub is_shortest : IsShortestText bits f.frac shortest
  pub hex : List ℕ
  pub is_hex : IsHexText f.width bits hex
  pub text_is : text ≡ fact form (codes "text") shortest
      ++ (fact form (codes "bits") (signed_decimal bits)
      ++ (fact form (codes "hex") hex
      ++ fact form (codes "value") value))

-- the text is a word for the number `bits`, and the facts give its values
pub record IsShownWord (form : Form) (bare : Radix) (f : FormatParts) (text facts : List ℕ) : Type 0 where
  pub bits : ℤ
  pub is_word : IsWord bare f text bits
  pub values : AreValues form f bits facts

-- the text is not a word of the format, and the facts say why
pub record IsRefusedWord (form : Form) (bare : Radix) (f : FormatParts) (text facts : List ℕ) : Type 0 where
  pub fault : WordFault
  pub is_fault : HasWordFault bare f text fault
  pub facts_are : facts ≡ refusal form (fault_message fault)

-- the facts answer a word, whose digits are in the radix `bare` without a prefix, and `refused` says whether it is
-- refused
abbrev pub AreBitsFacts : Form → Radix → FormatParts → List ℕ → Bool → List ℕ → Type 0
AreBitsFacts form bare f text true facts = IsRefusedWord form bare f text facts
AreBitsFacts form bare f text false facts = IsShownWord form bare f text facts

-- `block` is the answer in lines
abbrev pub IsBitsBlock : Radix → FormatParts → List ℕ → Bool → List ℕ → Type 0
IsBitsBlock bare f text refused block = AreBitsFacts Lines bare f text refused block

-- `object` is the answer as an object of JSON
pub record IsBitsObject (bare : Radix) (f : FormatParts) (text : List ℕ) (refused : Bool)
    (object : List ℕ) : Type 0 where
  pub members : List ℕ
  pub are_facts : AreBitsFacts Members bare f text refused members
  pub object_is : object ≡ object_text text members
