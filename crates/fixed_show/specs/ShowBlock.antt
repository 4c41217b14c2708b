-- The facts about a numeral in a format.
use Rattle.std.specs.Prelude.{◌≡◌, ◌⊎◌, ◌↔◌, ℕ, List, ◌++◌, ℤ, Bool, true, false, IsTrue, codes}
use Rattle.std.specs.Fmt.{signed_decimal}
use Rattle.fixed_bits.specs.Formats.{FormatParts}
use Rattle.fixed_bits.specs.Images.{IsImage, IsOutOfRangeBy}
use Rattle.fixed_bits.specs.declared.format.Policy.{Policy}
use Rattle.fixed_bits.specs.declared.format.Policy.TheVariants.{Checked}
use Rattle.fixed_bits.specs.declared.mode.ReadMode.{ReadMode}
use Rattle.fixed_enclose.specs.Enclosure.{IsEnclosed, IsUnenclosed}
use Rattle.fixed_numeral.specs.Cause.{HasCause}
use Rattle.fixed_numeral.specs.Messages.{message_of}
use Rattle.fixed_numeral.specs.Numeral.{Parts, HasNumeral}
use Rattle.fixed_numeral.specs.declared.error.ParseErrorKind.{ParseErrorKind}
use Rattle.fixed_numeral.specs.declared.error.ParseErrorKind.TheVariants.{Overflow}
use Rattle.fixed_numeral.specs.declared.radix.Radix.{Radix}
use Rattle.fixed_read.specs.Reading.{IsReadNumber, IsReadOutOfRange}
use Rattle.fixed_write.specs.Texts.{IsShortestText}
use Rattle.fixed_show.specs.BitsBlock.{AreValues}
use Rattle.fixed_show.specs.Forms.{fact, refusal}
use Rattle.fixed_show.specs.JsonText.{object_text}
use Rattle.fixed_show.specs.declared.form.Form.{Form}
use Rattle.fixed_show.specs.declared.form.Form.TheVariants.{Lines, Members}
use Rattle.fixed_show.specs.ShortError.{IsErrorText}
use Rattle.fixed_show.specs.declared.measure.Measure.TheVariants.{Ulps, Value}

-- `bytes` are a numeral, `bits` are the image of its rounded number, and `overflowed` says whether that number is out
-- of the range that the policy leaves
pub record IsReadAs (mode : ReadMode) (r : Radix) (bytes : List ℕ) (f : FormatParts) (policy : Policy) (bits : ℤ)
    (overflowed : Bool) : Type 0 where
  pub parts : Parts
  pub numeral : HasNumeral r bytes parts
  pub number : ℤ
  pub read : IsReadNumber mode r parts f.frac number
  pub image : IsImage policy f.signed f.width number bits
  pub flag : IsTrue overflowed ↔ IsOutOfRangeBy policy f.signed f.width number

-- `kind` says why no bits were read: `bytes` are not a numeral or, under `Checked`, the rounded number is out of range
abbrev pub IsUnread : ReadMode → Radix → List ℕ → FormatParts → Policy → ParseErrorKind → Type 0
IsUnread mode r bytes f policy kind = HasCause r bytes kind
    ⊎ ((kind ≡ Overflow) × (policy ≡ Checked) × IsReadOutOfRange mode r (HasNumeral r bytes) f.frac f.signed f.width)

-- no bits were read, for some kind of refusal
abbrev pub HasNoBits : ReadMode → Radix → List ℕ → FormatParts → Policy → Type 0
HasNoBits mode r bytes f policy = (kind : ParseErrorKind) × IsUnread mode r bytes f policy kind

-- the text is the error of the bits
pub record IsShownError (mode : ReadMode) (r : Radix) (bytes : List ℕ) (f : FormatParts) (policy : Policy)
    (text : List ℕ) : Type 0 where
  pub bits : ℤ
  pub overflowed : Bool
  pub read : IsReadAs mode r bytes f policy bits overflowed
  pub is_error : IsErrorText Members Value r read.parts f.frac bits text

-- the texts of two values, each with its bits
abbrev pub neighbours_text : List ℕ → ℤ → List ℕ → ℤ → List ℕ
neighbours_text low lo high hi = low ++ (codes " (" ++ (signed_decimal lo
    ++ (codes ") and " ++ (high ++ (codes " (" ++ (signed_decimal hi ++ codes ")"))))))

-- the facts with two neighbours
abbrev pub neighbours : Form → List ℕ → ℤ → List ℕ → ℤ → List ℕ
neighbours Lines low lo high hi = fact Lines (codes "between") (neighbours_text low lo high hi)
neighbours Members low lo high hi = fact Members (codes "low") low
    ++ (fact Members (codes "low_bits") (signed_decimal lo)
    ++ (fact Members (codes "high") high
    ++ fact Members (codes "high_bits") (signed_decimal hi)))

-- the facts without neighbours
abbrev pub no_neighbours : Form → List ℕ
no_neighbours Lines = fact Lines (codes "between") (codes "no two values of the format")
no_neighbours Members = codes ",\"low\":null,\"low_bits\":null,\"high\":null,\"high_bits\":null"

-- the text gives the two values of the format that enclose the numeral, by their shortest texts and their bits
pub record HasNeighbours (form : Form) (r : Radix) (bytes : List ℕ) (f : FormatParts) (text : List ℕ) : Type 0 where
  pub lo : ℤ
  pub hi : ℤ
  pub enclosed : IsEnclosed r bytes f lo hi
  pub low : List ℕ
  pub is_low : IsShortestText lo f.frac low
  pub high : List ℕ
  pub is_high : IsShortestText hi f.frac high
  pub text_is : text ≡ neighbours form low lo high hi

-- the format lacks one of the two, and the text says so
abbrev pub HasNoNeighbours : Form → Radix → List ℕ → FormatParts → List ℕ → Type 0
HasNoNeighbours form r bytes f text = IsUnenclosed r bytes f × (text ≡ no_neighbours form)

abbrev pub IsBetween : Form → Radix → List ℕ → FormatParts → List ℕ → Type 0
IsBetween form r bytes f text = HasNeighbours form r bytes f text ⊎ HasNoNeighbours form r bytes f text

-- the text for whether the rounded number is out of range
abbrev pub range_text : Bool → List ℕ
range_text true = codes "overflowed"
range_text false = codes "fits"

-- the facts are the values, the error, the neighbours and the range of the numeral
pub record IsShown (form : Form) (mode : ReadMode) (r : Radix) (bytes : List ℕ) (f : FormatParts) (policy : Policy)
    (facts : List ℕ) : Type 0 where
  pub bits : ℤ
  pub overflowed : Bool
  pub read : IsReadAs mode r bytes f policy bits overflowed
  pub values : List ℕ
  pub are_values : AreValues form f bits values
  pub error : List ℕ
  pub is_error : IsErrorText form Value r read.parts f.frac bits error
  pub ulps : List ℕ
  pub are_ulps : IsErrorText form Ulps r read.parts f.frac bits ulps
  pub between : List ℕ
  pub is_between : IsBetween form r bytes f between
  pub facts_are : facts ≡ values
      ++ (fact form (codes "error") error
      ++ (fact form (codes "ulps") ulps
      ++ (between
      ++ fact form (codes "range") (range_text overflowed))))

-- the facts say why the numeral is refused
pub record IsRefusedNumeral (form : Form) (mode : ReadMode) (r : Radix) (bytes : List ℕ) (f : FormatParts)
    (policy : Policy) (facts : List ℕ) : Type 0 where
  pub kind : ParseErrorKind
  pub unread : IsUnread mode r bytes f policy kind
  pub facts_are : facts ≡ refusal form (message_of kind)

-- the facts answer a numeral, and `refused` says whether it is refused
abbrev pub AreShowFacts : Form → ReadMode → Radix → List ℕ → FormatParts → Policy → Bool → List ℕ → Type 0
AreShowFacts form mode r bytes f policy true facts = IsRefusedNumeral form mode r bytes f policy facts
AreShowFacts form mode r bytes f policy false facts = IsShown form mode r bytes f policy facts

-- `block` is the answer in lines
abbrev pub IsShowBlock : ReadMode → Radix → List ℕ → FormatParts → Policy → Bool → List ℕ → Type 0
IsShowBlock mode r bytes f policy refused block = AreShowFacts Lines mode r bytes f policy refused block

-- `object` is the answer as an object of JSON
pub record IsShowObject (mode : ReadMode) (r : Radix) (bytes : List ℕ) (f : FormatParts) (policy : Policy)
    (refused : Bool) (object : List ℕ) : Type 0 where
  pub members : List ℕ
  pub are_facts : AreShowFacts Members mode r bytes f policy refused members
  pub object_is : object ≡ object_text bytes members
