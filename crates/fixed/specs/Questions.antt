-- What the words of `fixed show` and `fixed bits` ask about a word.
use Rattle.std.specs.Prelude.{◌≡◌, ◌⊎◌, ◌==◌, ℕ, Bool, true, false, List, [], ◌∷◌, None, Option, Some, codes}
use Rattle.std.specs.Prelude.{filter, length, nat_lt}
use Rattle.command_line.specs.Words.{has_flag, value_of, values_of, word_at}
use Rattle.command_line.specs.declared.given.Given.{Given}
use Rattle.fixed_amounts.specs.declared.facts.AmountQuestion.{AmountQuestion}
use Rattle.fixed_bits.specs.Formats.{FormatParts}
use Rattle.fixed_bits.specs.declared.format.Policy.{Policy}
use Rattle.fixed_bits.specs.declared.format.Policy.TheVariants.{Checked}
use Rattle.fixed_bits.specs.declared.mode.ReadMode.{ReadMode}
use Rattle.fixed_bits.specs.declared.mode.ReadMode.TheVariants.{NearestEven}
use Rattle.fixed_command.specs.Asked.{IsNamed}
use Rattle.fixed_command.specs.declared.blocks.Question.{Question}
use Rattle.fixed_command.specs.declared.blocks.Question.TheVariants as question
use Rattle.fixed_fields.specs.Fields.{IsFieldName, fields_of}
use Rattle.fixed_fields.specs.declared.answer.FieldsQuestion.{FieldsQuestion}
use Rattle.fixed_fields.specs.declared.list.Field.{Field}
use Rattle.fixed_numeral.specs.declared.radix.Radix.{Radix}
use Rattle.fixed_numeral.specs.declared.radix.Radix.TheVariants.{Dec}
use Rattle.fixed_respell.specs.Words.{mode_text, policy_text, radix_text}
use Rattle.fixed_show.specs.declared.parts.Part.{Part}
use Rattle.fixed.specs.Amounts.{AreUnitsAsked, IsDecimalAsked, IsNumeralAsked, NamesNoDecimal}
use Rattle.fixed.specs.Lines.{IsFormatAsked, IsPartAsked}

-- the first word names a decimal format, and the question is about an amount in it
pub record IsAmountAskedBy (given : Given) (Asks : ℕ → AmountQuestion → Type 0) (q : Question) : Type 0 where
  pub format : ℕ
  pub is_format : IsDecimalAsked (word_at given 0) format
  pub asked : AmountQuestion
  pub is_asked : Asks format asked
  pub question_is : q ≡ question.Amount asked

-- the question is about an amount if the first word names a decimal format, else about a number in a binary format
abbrev pub IsAskedBy : Given → (ℕ → AmountQuestion → Type 0) → (Question → Type 0) → Question → Type 0
IsAskedBy given Asks Binary q = IsAmountAskedBy given Asks q
    ⊎ (NamesNoDecimal (word_at given 0) × Binary q)

-- a numeral in a binary format
pub record IsBinaryNumeralAsked (given : Given) (q : Question) : Type 0 where
  pub format : FormatParts
  pub is_format : IsFormatAsked (word_at given 0) format
  pub radix : Radix
  pub is_radix : IsNamed Radix radix_text Dec (value_of given (codes "radix")) radix
  pub policy : Policy
  pub is_policy : IsNamed Policy policy_text Checked (value_of given (codes "policy")) policy
  pub mode : ReadMode
  pub is_mode : IsNamed ReadMode mode_text NearestEven (value_of given (codes "mode")) mode
  pub question_is : q ≡ question.Show radix format policy mode

-- `fixed show`
abbrev pub IsShowAsked : Given → Question → Type 0
IsShowAsked given = IsAskedBy given (IsNumeralAsked given) (IsBinaryNumeralAsked given)

-- a register word of a binary format, or a part of it
abbrev pub word_question : Radix → FormatParts → Option Part → Question
word_question radix format None = question.Bits radix format
word_question radix format (Some part) = question.Part radix part format

pub record IsBinaryWordAsked (given : Given) (q : Question) : Type 0 where
  pub format : FormatParts
  pub is_format : IsFormatAsked (word_at given 0) format
  pub radix : Radix
  pub is_radix : IsNamed Radix radix_text Dec (value_of given (codes "radix")) radix
  pub part : Option Part
  pub is_part : IsPartAsked format given part
  pub question_is : q ≡ word_question radix format part

-- a count of units or a register word, in the format that the first word names
abbrev pub IsWordAsked : Given → Question → Type 0
IsWordAsked given = IsAskedBy given (AreUnitsAsked given) (IsBinaryWordAsked given)

-- whether a word is of the form `HI:LO:FORMAT`: it has two colons or more
abbrev pub has_two_colons : List ℕ → Bool
has_two_colons word = nat_lt 1 (length (filter (λ byte. byte == 58) word))

-- whether fields with formats of their own are requested: several, or one of that form
abbrev pub has_fields_in : List (List ℕ) → Bool
has_fields_in [] = false
has_fields_in (word ∷ []) = has_two_colons word
has_fields_in (first ∷ second ∷ more) = true

-- each word names a field
abbrev pub AreNames : List (List ℕ) → List Field → Type 0
AreNames [] [] = Unit {0}
AreNames [] (field ∷ fields) = ⊥
AreNames (word ∷ words) [] = ⊥
AreNames (word ∷ words) (field ∷ fields) = IsFieldName word field × AreNames words fields

-- several fields of a register word
pub record AreFieldsAsked (given : Given) (asked : FieldsQuestion) : Type 0 where
  pub is_radix : IsNamed Radix radix_text Dec (value_of given (codes "radix")) asked.radix
  pub swap : asked.is_reversed ≡ has_flag given (codes "swap")
  pub fields : AreNames (values_of given (codes "field")) (fields_of asked.fields)

-- the question by whether such fields are requested, and the index of the first word
abbrev pub IsBitsBy : Bool → Given → Question → ℕ → Type 0
IsBitsBy true given q place = ((asked : FieldsQuestion) × AreFieldsAsked given asked × (q ≡ question.Fields asked))
    × (place ≡ 0)
IsBitsBy false given q place = IsWordAsked given q × (place ≡ 1)

-- `fixed bits`
abbrev pub IsBitsAsked : Given → Question → ℕ → Type 0
IsBitsAsked given = IsBitsBy (has_fields_in (values_of given (codes "field"))) given
