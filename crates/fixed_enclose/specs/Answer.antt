-- The answer to a line.
use Rattle.std.specs.Prelude.{◌≡◌, ◌⊎◌, ◌↔◌, ◌<◌, ◌≤◌, ℕ, List, [], ◌∷◌, ◌++◌, ℤ, Bool, true, false, IsTrue, length}
use Rattle.std.specs.Prelude.{codes}
use Rattle.std.specs.Fmt.{signed_decimal}
use Rattle.fixed_bits.specs.Formats.{FormatParts}
use Rattle.fixed_numeral.specs.Messages.{message_of}
use Rattle.fixed_numeral.specs.declared.error.ParseErrorKind.{ParseErrorKind}
use Rattle.fixed_numeral.specs.declared.radix.Radix.{Radix}
use Rattle.fixed_respell.specs.Answer.{NamesFormat, NamesRadix}
use Rattle.fixed_respell.specs.Language.{Language, IsAnswerIn, fault_answer}
use Rattle.fixed_respell.specs.LineWords.{HasBadWord, HasWords, IsFirst, longest_line, space}
use Rattle.fixed_respell.specs.Split.{count_of}
use Rattle.fixed_respell.specs.Words.{radix_text, IsFormatWord}
use Rattle.fixed_write.specs.Texts.{IsShortestText}
use Rattle.line_engine.specs.AnswerText.{AnswerText}
use Rattle.fixed_enclose.specs.Enclosure.{IsEnclosed, IsRefusal}
use Rattle.fixed_enclose.specs.declared.fault.EncloseFault.{EncloseFault}
use Rattle.fixed_enclose.specs.declared.fault.EncloseFault.TheVariants.{LineTooLong, MissingField, BadRadix, BadFormat}

-- the text that is written for any argument
abbrev pub usage_line : List ℕ
usage_line = codes "usage: enclose_tool\n"

-- ---- the faults of a line
-- the line has the fault
abbrev pub HasFault : EncloseFault → List ℕ → Type 0
HasFault LineTooLong line = longest_line < length line
HasFault MissingField line = count_of space line < 2
HasFault BadRadix line = HasBadWord 2 0 NamesRadix line
HasFault BadFormat line = HasBadWord 2 1 NamesFormat line

-- the rank of a fault in the order of the checks
abbrev pub fault_rank : EncloseFault → ℕ
fault_rank LineTooLong = 0
fault_rank MissingField = 1
fault_rank BadRadix = 2
fault_rank BadFormat = 3

-- the line has the fault, and none before it
abbrev pub IsFirstFault : EncloseFault → List ℕ → Type 0
IsFirstFault fault line = IsFirst EncloseFault fault_rank (λ f. HasFault f line) fault

-- the message of a fault
abbrev pub fault_message : EncloseFault → List ℕ
fault_message LineTooLong = codes "line too long"
fault_message MissingField = codes "missing field"
fault_message BadRadix = codes "bad radix"
fault_message BadFormat = codes "bad format"

-- ---- the task of a line
-- a request for the two values of a format nearest to a numeral's value, below and above
pub record Task : Type 0 where
  pub radix : Radix
  pub format : FormatParts
  pub numeral : List ℕ

abbrev pub task_of : Radix → FormatParts → List ℕ → Task
task_of r f bytes = record { radix = r; format = f; numeral = bytes }

-- the line is not too long, its first two words name the task, and all that follows the second space is the numeral
pub record Asks (line : List ℕ) (t : Task) : Type 0 where
  pub short : length line ≤ longest_line
  pub radix_word : List ℕ
  pub format_word : List ℕ
  pub words : HasWords line (radix_word ∷ format_word ∷ []) t.numeral
  pub radix : radix_word ≡ radix_text t.radix
  pub format : IsFormatWord format_word t.format

-- ---- the answer to a task
-- the message of the kind for which the task's numeral is refused
pub record IsRefusalAnswer (t : Task) (answer : AnswerText) : Type 0 where
  pub kind : ParseErrorKind
  pub refusal : IsRefusal t.radix t.numeral t.format kind
  pub answer_is : answer ≡ fault_answer (message_of kind)

-- the last word of an answer
abbrev pub verdict : Bool → List ℕ
verdict true = codes "exact"
verdict false = codes "wide"

-- the low text, its bits in decimal, the high text, its bits in decimal, and whether the bits are equal
abbrev pub ends_answer : List ℕ → ℤ → List ℕ → ℤ → Bool → AnswerText
ends_answer low_text lo high_text hi exact = record {
  text = low_text ++ space ∷ (signed_decimal lo
      ++ space ∷ (high_text ++ space ∷ (signed_decimal hi ++ space ∷ verdict exact)));
  fault = false;
}

-- the bits of the numeral's enclosure, each after its shortest decimal, and whether they are equal
pub record IsEnclosedAnswer (t : Task) (answer : AnswerText) : Type 0 where
  pub lo : ℤ
  pub hi : ℤ
  pub enclosed : IsEnclosed t.radix t.numeral t.format lo hi
  pub low_text : List ℕ
  pub low_shortest : IsShortestText lo t.format.frac low_text
  pub high_text : List ℕ
  pub high_shortest : IsShortestText hi t.format.frac high_text
  pub exact : Bool
  pub is_exact : IsTrue exact ↔ (lo ≡ hi)
  pub answer_is : answer ≡ ends_answer low_text lo high_text hi exact

-- the answer to a task is one of the two
abbrev pub IsTaskAnswered : Task → AnswerText → Type 0
IsTaskAnswered t answer = IsRefusalAnswer t answer ⊎ IsEnclosedAnswer t answer

-- ---- the answer
abbrev pub enclose_language : Language
enclose_language = record {
  Fault = EncloseFault;
  rank = fault_rank;
  HasFault = HasFault;
  message = fault_message;
  Task = Task;
  Asks = Asks;
  IsAnswered = IsTaskAnswered;
}

-- the answer to the line
abbrev pub IsAnswer : List ℕ → AnswerText → Type 0
IsAnswer = IsAnswerIn enclose_language
