-- The answer to a file of named literals that is to be one array.
use Rattle.std.specs.Prelude.{◌≡◌, ◌⊎◌, ◌+◌, ◌≤◌, ◌<◌, ℕ, List, [], ◌∷◌, ◌++◌, codes, decimal, true, false}
use Rattle.fixed_bits.specs.Formats.{FormatParts}
use Rattle.fixed_respell.specs.Words.{IsFormatWord, format_text}
use Rattle.fixed_constants.specs.Answer as literal
use Rattle.fixed_constants.specs.Constants.{ConstantParts, Fields, IsConstantsOf, IsFaultOf}
use Rattle.fixed_constants.specs.declared.fault.ConstantFault.{ConstantFault}
use Rattle.line_engine.specs.AnswerText.{AnswerText}
use Rattle.line_engine.specs.Lines.{lines}
use Rattle.fixed_arrays.specs.Table.{literals_text}
use Rattle.fixed_arrays.specs.declared.fault.LiteralsFault.{LiteralsFault}
use Rattle.fixed_arrays.specs.declared.fault.LiteralsFault.TheVariants.{Empty, NoMemory, OtherFormat, Refused}
use Rattle.fixed_arrays.specs.declared.literal_rule.LiteralArrayRule.{LiteralArrayRule}
use Rattle.fixed_arrays.specs.declared.text.Frame.{Frame}

-- ---- formats of lines
-- a line that is not passed over has this format, which its format word names
pub record HasFormat (line : List ℕ) (f : FormatParts) : Type 0 where
  pub fields : Fields line
  pub word : IsFormatWord fields.format f

-- this is the format of the first of these lines that has one
abbrev pub HasFirstFormat : List (List ℕ) → FormatParts → Type 0
HasFirstFormat [] f = ⊥
HasFirstFormat (line ∷ lines) f = HasFormat line f ⊎ (((g : FormatParts) → ¬ HasFormat line g) × HasFirstFormat lines f)

-- the line has a format other than `f`
abbrev pub HasOther : FormatParts → List ℕ → Type 0
HasOther f line = (g : FormatParts) × HasFormat line g × (¬ (g ≡ f))

-- the first of these lines, numbered from `n` on, with a format other than `f` is line `p`
abbrev pub OtherFrom : ℕ → FormatParts → List (List ℕ) → ℕ → Type 0
OtherFrom n f [] p = ⊥
OtherFrom n f (line ∷ lines) p = (HasOther f line × (p ≡ n)) ⊎ ((¬ HasOther f line) × OtherFrom (n + 1) f lines p)

-- line `p` of the text, from 1, is the first whose format is not `f`, the format of the first literal
pub record IsOtherOn (text : List ℕ) (f : FormatParts) (p : ℕ) : Type 0 where
  pub first : HasFirstFormat (lines text) f
  pub other : OtherFrom 1 f (lines text) p

-- the constants have this format
abbrev pub AreOf : FormatParts → List ConstantParts → Type 0
AreOf f [] = Unit {0}
AreOf f (c ∷ constants) = (c.format ≡ f) × AreOf f constants

-- ---- the answer
-- why a text is not an array: it has no literal; or it has a first fault or a first line of another format, whichever
-- is on the earlier line; the fault if both are on one line
abbrev pub HasLiteralsFault : List ℕ → LiteralsFault → Type 0
HasLiteralsFault text Empty = IsConstantsOf text []
HasLiteralsFault text (Refused p fault) = IsFaultOf text p fault
    × ((f : FormatParts) (q : ℕ) → IsOtherOn text f q → p ≤ q)
HasLiteralsFault text (OtherFormat p f) = IsOtherOn text f p
    × ((q : ℕ) (fault : ConstantFault) → IsFaultOf text q fault → p < q)
HasLiteralsFault text NoMemory = ⊥

-- the line written for it
abbrev pub other_format_line : ℕ → FormatParts → List ℕ
other_format_line p f = codes "error: line "
    ++ (decimal p ++ (codes ": another format than " ++ (format_text f ++ 10 ∷ [])))

abbrev pub literals_fault_line : LiteralsFault → List ℕ
literals_fault_line Empty = codes "error: line 1: no literal\n"
literals_fault_line (Refused p fault) = literal.fault_line p fault
literals_fault_line (OtherFormat p f) = other_format_line p f
literals_fault_line NoMemory = []

-- the frame in which a rule writes numbers of a format
abbrev pub frame_for : LiteralArrayRule → FormatParts → Frame
frame_for r f = record { form = r.form; name = r.name; guard = r.guard; format = f }

-- the answer is the array of the text's constants, which have one format
pub record IsLiteralArray (r : LiteralArrayRule) (text : List ℕ) (answer : AnswerText) : Type 0 where
  pub constants : List ConstantParts
  pub are : IsConstantsOf text constants
  pub some : ¬ (constants ≡ [])
  pub format : FormatParts
  pub one : AreOf format constants
  pub array : answer.text ≡ literals_text (frame_for r format) constants
  pub fault : answer.fault ≡ false

-- the answer is the line of the text's first fault
pub record IsLiteralRefusal (text : List ℕ) (answer : AnswerText) : Type 0 where
  pub why : LiteralsFault
  pub is : HasLiteralsFault text why
  pub line : answer.text ≡ literals_fault_line why
  pub fault : answer.fault ≡ true

abbrev pub IsLiteralArrayAnswer : LiteralArrayRule → List ℕ → AnswerText → Type 0
IsLiteralArrayAnswer r text answer = IsLiteralArray r text answer ⊎ IsLiteralRefusal text answer
