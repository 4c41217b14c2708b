-- The statements of this crate's laws.
use Rattle.std.specs.Prelude.{◌≡◌, ℕ, List, ℤ, String, None, map, true, false}
use Rattle.std.specs.declared.alloc.Global.{Global}
use Rattle.fixed_write.specs.declared.style.Notation.TheVariants.{LowerHex}
use Rattle.fixed_write.specs.declared.style.Align.TheVariants.{Right}
use Rattle.fixed_write.specs.declared.style.Style.{Style}
use Rattle.fixed_write.specs.Styled.{IsStyledText}
use Rattle.line_engine.specs.AnswerText.{AnswerText}
use Rattle.line_engine.specs.Lines.{lines}
use Rattle.fixed_constants.specs.Answer.{IsWholeAnswer}
use Rattle.fixed_constants.specs.Canonical.{canonical_text, literal_text}
use Rattle.fixed_constants.specs.Constants.{ConstantParts, HasName, IsConstantsOf, IsErrorOf, IsFaultOf, IsFirstNamed}
use Rattle.fixed_constants.specs.Constants.{IsLiteralOf}
use Rattle.fixed_constants.specs.Entries.{AreEntries}
use Rattle.fixed_constants.specs.Forms.{IsFormAnswer, IsFormError, IsFormFault}
use Rattle.fixed_constants.specs.Plain.{plain_line, plain_text}
use Rattle.fixed_constants.specs.Program.{NamesForm}
use Rattle.fixed_constants.specs.declared.fault.ConstantFault.{ConstantFault}
use Rattle.fixed_constants.specs.declared.fault.ConstantsError.{ConstantsError}
use Rattle.fixed_constants.specs.declared.fault.ConstantsError.TheVariants.{NoMemory}
use Rattle.fixed_constants.specs.declared.form.Form.{Form}
use Rattle.fixed_bits.specs.Formats.{FormatParts}
use Rattle.fixed_bits.specs.Ranges.{IsInRange}

-- ---- one outcome
-- a text has at most one list of constants
abbrev pub ConstantsAreTheOnes : Type 0
ConstantsAreTheOnes = (text : List ℕ) (a b : List ConstantParts) → IsConstantsOf text a → IsConstantsOf text b → a ≡ b

-- a text has at most one first fault, on one line
abbrev pub FaultIsTheOne : Type 0
FaultIsTheOne = (text : List ℕ) (p q : ℕ) (f g : ConstantFault) → IsFaultOf text p f → IsFaultOf text q g
    → (p ≡ q) × (f ≡ g)

-- no text has both constants and a fault, so a text is refused exactly if it has a fault
abbrev pub NeverBoth : Type 0
NeverBoth = (text : List ℕ) (constants : List ConstantParts) (p : ℕ) (f : ConstantFault) → IsConstantsOf text constants
    → ¬ IsFaultOf text p f

-- an input has one answer
abbrev pub AnswerIsTheOne : Type 0
AnswerIsTheOne = (input : List ℕ) (a b : AnswerText) → IsWholeAnswer input a → IsWholeAnswer input b → a ≡ b

-- a file has one answer in a form
abbrev pub FormAnswerIsTheOne : Type 0
FormAnswerIsTheOne = (form : Form) (guard input : List ℕ) (a b : AnswerText) → IsFormAnswer form guard input a
    → IsFormAnswer form guard input b → a ≡ b

-- a text has at most one first fault in a form, on one line; a reserved name is such a fault
abbrev pub FormFaultIsTheOne : Type 0
FormFaultIsTheOne = (form : Form) (guard text : List ℕ) (p q : ℕ) (f g : ConstantFault)
    → IsFormFault form guard text p f → IsFormFault form guard text q g → (p ≡ q) × (f ≡ g)

-- a text has at most one error, if memory sufficed
abbrev pub ErrorIsTheOne : Type 0
ErrorIsTheOne = (text : List ℕ) (a b : ConstantsError) → ¬ (a ≡ NoMemory) → ¬ (b ≡ NoMemory) → IsErrorOf text a
    → IsErrorOf text b → a ≡ b

-- the same in a form
abbrev pub FormErrorIsTheOne : Type 0
FormErrorIsTheOne = (form : Form) (guard text : List ℕ) (a b : ConstantsError) → ¬ (a ≡ NoMemory) → ¬ (b ≡ NoMemory)
    → IsFormError form guard text a → IsFormError form guard text b → a ≡ b

-- arguments name one form and one guard
abbrev pub NamedFormIsTheOne : Type 0
NamedFormIsTheOne = (args : List (String Global)) (f g : Form) (a b : List ℕ) → NamesForm args f a → NamesForm args g b
    → (f ≡ g) × (a ≡ b)

-- ---- names
-- a list has one first constant of a name, which has the name, and is in the list
abbrev pub FirstNamedIsTheOne : Type 0
FirstNamedIsTheOne = (name : List ℕ) (constants : List ConstantParts) (c : ConstantParts)
    → IsFirstNamed name constants c
    → ((d : ConstantParts) → IsFirstNamed name constants d → c ≡ d) × (c.name ≡ name) × HasName name constants

-- ---- literals
-- a literal is read as at most one number of bits in a format
abbrev pub LiteralIsTheOne : Type 0
LiteralIsTheOne = (f : FormatParts) (bytes : List ℕ) (b c : ℤ) → IsLiteralOf f bytes b → IsLiteralOf f bytes c → b ≡ c

-- exact lower-case hexadecimal with the prefix, and nothing else
abbrev pub literal_style : Style
literal_style = record {
  notation = LowerHex;
  precision = None;
  width = 0;
  fill = 32;
  align = Right;
  plus = false;
  prefix = true;
  zero_pad = false;
}

-- the literal written for a value is its styled text
abbrev pub LiteralIsStyled : Type 0
LiteralIsStyled = (c : ℤ) (g : ℕ) → IsStyledText literal_style c g (literal_text c g)

-- the literal written for a value is read as the same bits in every format that has them
abbrev pub LiteralReadsBack : Type 0
LiteralReadsBack = (f : FormatParts) (c : ℤ) → IsInRange f.signed f.width c → IsLiteralOf f (literal_text c f.frac) c

-- ---- written text reads back
-- the constants of a text are entries with different names
abbrev pub ConstantsAreEntries : Type 0
ConstantsAreEntries = (text : List ℕ) (constants : List ConstantParts) → IsConstantsOf text constants
    → AreEntries constants

-- the canonical text of entries has these entries for its constants
abbrev pub CanonicalTextReadsBack : Type 0
CanonicalTextReadsBack = (constants : List ConstantParts) → AreEntries constants
    → IsConstantsOf (canonical_text constants) constants

-- constants that were read from a text are read again from their canonical text
abbrev pub WrittenReadsBack : Type 0
WrittenReadsBack = (text : List ℕ) (constants : List ConstantParts) → IsConstantsOf text constants
    → IsConstantsOf (canonical_text constants) constants

-- two inputs with the same constants have one answer
abbrev pub EntriesHaveOneAnswer : Type 0
EntriesHaveOneAnswer = (input other : List ℕ) (constants : List ConstantParts) (a b : AnswerText)
    → IsConstantsOf input constants → IsConstantsOf other constants → IsWholeAnswer input a → IsWholeAnswer other b
    → a ≡ b

-- an answer without a fault is the answer to itself
abbrev pub AnswerIsItsOwn : Type 0
AnswerIsItsOwn = (input : List ℕ) (a : AnswerText) → IsWholeAnswer input a → a.fault ≡ false → IsWholeAnswer a.text a

-- ---- plain texts
-- the lines of a plain text are the plain lines of the text, so each has the same number
abbrev pub LinesKeepTheirNumbers : Type 0
LinesKeepTheirNumbers = (text : List ℕ) → lines (plain_text text) ≡ map plain_line (lines text)
