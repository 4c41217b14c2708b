-- The facts about an amount, a count of units, and a decimal format.
use Rattle.std.specs.Prelude.{◌≡◌, ℕ, ℤ, pos, Bool, true, false, List, ◌++◌, codes}
use Rattle.std.specs.Fmt.{signed_decimal}
use Rattle.fixed_bits.specs.declared.format.Policy.{Policy}
use Rattle.fixed_bits.specs.declared.mode.ReadMode.{ReadMode}
use Rattle.fixed_decimal.specs.Texts.{decimal_format_text}
use Rattle.fixed_numeral.specs.Messages.{message_of}
use Rattle.fixed_numeral.specs.declared.error.ParseErrorKind.{ParseErrorKind}
use Rattle.fixed_numeral.specs.declared.radix.Radix.TheVariants.{Dec}
use Rattle.fixed_show.specs.BitsBlock.{fault_message}
use Rattle.fixed_show.specs.Blocks.{hex_text}
use Rattle.fixed_show.specs.DecimalError.{IsDecimalError}
use Rattle.fixed_show.specs.Forms.{fact, refusal}
use Rattle.fixed_show.specs.JsonText.{object_text}
use Rattle.fixed_show.specs.ShowBlock.{range_text}
use Rattle.fixed_show.specs.WordText.{HasWordFault, IsWord}
use Rattle.fixed_show.specs.declared.form.Form.{Form}
use Rattle.fixed_show.specs.declared.form.Form.TheVariants.{Lines, Members}
use Rattle.fixed_show.specs.declared.words.WordFault.{WordFault}
use Rattle.fixed_amounts.specs.Explained.{greatest_text, least_text}
use Rattle.fixed_amounts.specs.Names.{name_text}
use Rattle.fixed_amounts.specs.Reading.{IsReadAs, IsUnread, words}
use Rattle.fixed_amounts.specs.Reply.{unit_word}
use Rattle.fixed_amounts.specs.declared.facts.AmountQuestion.{AmountQuestion}
use Rattle.fixed_amounts.specs.declared.facts.AmountQuestion.TheVariants.{Numeral, Units}

-- the facts about a count of units: the text of the amount, the count in decimal and in hexadecimal, and the exact
-- value, which is the same text
abbrev pub values : Form → ℕ → ℤ → List ℕ
values form places units = fact form (codes "text") (decimal_format_text units places)
    ++ (fact form (codes "bits") (signed_decimal units)
    ++ (fact form (codes "hex") (hex_text 64 (unit_word units))
    ++ fact form (codes "value") (decimal_format_text units places)))

-- ---- a numeral
-- the facts are the amount that the numeral is read as, the error, and whether the number read is in range
pub record IsShown (form : Form) (mode : ReadMode) (places : ℕ) (policy : Policy) (bytes facts : List ℕ) : Type 0 where
  pub units : ℤ
  pub overflowed : Bool
  pub read : IsReadAs mode bytes places policy units overflowed
  pub error : List ℕ
  pub is_error : IsDecimalError form read.parts places units error
  pub facts_are : facts ≡ values form places units
      ++ (fact form (codes "error") error ++ fact form (codes "range") (range_text overflowed))

-- the facts say why the numeral is refused
pub record IsNotShown (form : Form) (mode : ReadMode) (places : ℕ) (policy : Policy)
    (bytes facts : List ℕ) : Type 0 where
  pub kind : ParseErrorKind
  pub unread : IsUnread mode bytes places policy kind
  pub facts_are : facts ≡ refusal form (message_of kind)

-- ---- a count of units
pub record AreUnits (form : Form) (places : ℕ) (bytes facts : List ℕ) : Type 0 where
  pub units : ℤ
  pub is_word : IsWord Dec words bytes units
  pub facts_are : facts ≡ values form places units

-- the bytes are not a count of units, and the facts say why
pub record AreNoUnits (form : Form) (bytes facts : List ℕ) : Type 0 where
  pub fault : WordFault
  pub is_fault : HasWordFault Dec words bytes fault
  pub facts_are : facts ≡ refusal form (fault_message fault)

-- ---- a question
-- the facts answer a question about a word, and `refused` says whether they report a fault
abbrev pub AreFacts : Form → AmountQuestion → List ℕ → Bool → List ℕ → Type 0
AreFacts form (Numeral format policy mode) word true facts = IsNotShown form mode format policy word facts
AreFacts form (Numeral format policy mode) word false facts = IsShown form mode format policy word facts
AreFacts form (Units format) word true facts = AreNoUnits form word facts
AreFacts form (Units format) word false facts = AreUnits form format word facts

-- the block is the answer in lines
abbrev pub IsAmountBlock : AmountQuestion → List ℕ → Bool → List ℕ → Type 0
IsAmountBlock question word refused block = AreFacts Lines question word refused block

-- the object is the answer as an object of JSON
pub record IsAmountObject (question : AmountQuestion) (word : List ℕ) (refused : Bool)
    (object : List ℕ) : Type 0 where
  pub members : List ℕ
  pub are_facts : AreFacts Members question word refused members
  pub object_is : object ≡ object_text word members

-- ---- a format: its name, its ends, and the distance between two amounts
abbrev pub format_facts : Form → ℕ → List ℕ
format_facts form places = fact form (codes "format") (name_text places)
    ++ (fact form (codes "least") (least_text places)
    ++ (fact form (codes "greatest") (greatest_text places)
    ++ fact form (codes "ulp") (decimal_format_text (pos 1) places)))
