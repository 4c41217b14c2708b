-- The answer to a line.
use Rattle.std.specs.Prelude.{◌≡◌, ◌⊎◌, ◌<◌, ◌≤◌, ℕ, List, [], ◌∷◌, ◌++◌, ℤ, Bool, true, false, length, codes}
use Rattle.std.specs.Fmt.{signed_decimal}
use Rattle.fixed_bits.specs.Formats.{FormatParts}
use Rattle.fixed_bits.specs.declared.format.Policy.{Policy}
use Rattle.fixed_bits.specs.declared.mode.ReadMode.{ReadMode}
use Rattle.fixed_numeral.specs.Messages.{message_of}
use Rattle.fixed_numeral.specs.declared.error.ParseErrorKind.{ParseErrorKind}
use Rattle.fixed_numeral.specs.declared.radix.Radix.{Radix}
use Rattle.fixed_respell.specs.Language.{Language, IsAnswerIn, fault_answer}
use Rattle.fixed_respell.specs.LineWords.{HasBadWord, HasWords, IsFirst, longest_line, space}
use Rattle.fixed_respell.specs.Split.{count_of}
use Rattle.fixed_respell.specs.Reached.{IsRespelled, IsRefusal}
use Rattle.line_engine.specs.AnswerText.{AnswerText}
use Rattle.fixed_write.specs.Texts.{IsShortestText}
use Rattle.fixed_respell.specs.FormatNames.{IsFormatName}
use Rattle.fixed_respell.specs.Words.{radix_text, IsFormatWord, IsPlainWord, IsPolicyName, IsPolicyWord}
use Rattle.fixed_respell.specs.declared.fault.LineFault.{LineFault}
use Rattle.fixed_respell.specs.declared.fault.LineFault.TheVariants.{LineTooLong, MissingField, BadRadix, BadSource}
use Rattle.fixed_respell.specs.declared.fault.LineFault.TheVariants.{BadTarget, BadPolicy}

-- ---- the faults of a line
-- The definitions below take as parameters which format a word names, and which policy and mode a fourth word names. In
-- the programs of lines these are `IsFormatWord` and `IsPolicyWord`, or `IsPlainWord` without mode words; with formats
-- of any width and all modes they are `IsFormatName` and `IsPolicyName`.

-- a word names a radix
abbrev pub NamesRadix : List ℕ → Type 0
NamesRadix word = (r : Radix) × (word ≡ radix_text r)

-- a word names a format
abbrev pub NamesFormatBy : (List ℕ → FormatParts → Type 0) → List ℕ → Type 0
NamesFormatBy Names word = (f : FormatParts) × Names word f

abbrev pub NamesFormat : List ℕ → Type 0
NamesFormat = NamesFormatBy IsFormatWord

-- a word names a policy and a mode
abbrev pub NamesSome : (List ℕ → Policy → ReadMode → Type 0) → List ℕ → Type 0
NamesSome NamesPolicy word = (p : Policy) × (m : ReadMode) × NamesPolicy word p m

-- the line has the fault
abbrev pub HasFaultBy : (List ℕ → FormatParts → Type 0) → (List ℕ → Policy → ReadMode → Type 0) → LineFault → List ℕ
    → Type 0
HasFaultBy Names NamesPolicy LineTooLong line = longest_line < length line
HasFaultBy Names NamesPolicy MissingField line = count_of space line < 4
HasFaultBy Names NamesPolicy BadRadix line = HasBadWord 4 0 NamesRadix line
HasFaultBy Names NamesPolicy BadSource line = HasBadWord 4 1 (NamesFormatBy Names) line
HasFaultBy Names NamesPolicy BadTarget line = HasBadWord 4 2 (NamesFormatBy Names) line
HasFaultBy Names NamesPolicy BadPolicy line = HasBadWord 4 3 (NamesSome NamesPolicy) line

-- the rank of a fault in the order of the checks
abbrev pub fault_rank : LineFault → ℕ
fault_rank LineTooLong = 0
fault_rank MissingField = 1
fault_rank BadRadix = 2
fault_rank BadSource = 3
fault_rank BadTarget = 4
fault_rank BadPolicy = 5

-- the line has the fault, and none before it
abbrev pub IsFirstFaultBy : (List ℕ → FormatParts → Type 0) → (List ℕ → Policy → ReadMode → Type 0) → LineFault
    → List ℕ → Type 0
IsFirstFaultBy Names NamesPolicy fault line = IsFirst LineFault fault_rank
    (λ f. HasFaultBy Names NamesPolicy f line) fault

-- the message of a fault
abbrev pub fault_message : LineFault → List ℕ
fault_message LineTooLong = codes "line too long"
fault_message MissingField = codes "missing field"
fault_message BadRadix = codes "bad radix"
fault_message BadSource = codes "bad source format"
fault_message BadTarget = codes "bad target format"
fault_message BadPolicy = codes "bad policy"

-- ---- the task of a line
-- a numeral in a radix, the source format that it is read into, the target format that it is moved to, the policy for
-- a number out of range, and the rounding mode
pub record Task : Type 0 where
  pub radix : Radix
  pub source : FormatParts
  pub target : FormatParts
  pub policy : Policy
  pub mode : ReadMode
  pub numeral : List ℕ

abbrev pub task_of : Radix → FormatParts → FormatParts → Policy → ReadMode → List ℕ → Task
task_of r s t p m bytes = record { radix = r; source = s; target = t; policy = p; mode = m; numeral = bytes }

-- the line is not too long, its first four words name the task, and all that follows the fourth space is the numeral
pub record AsksBy (Names : List ℕ → FormatParts → Type 0) (NamesPolicy : List ℕ → Policy → ReadMode
    → Type 0) (line : List ℕ) (t : Task) : Type 0 where
  pub short : length line ≤ longest_line
  pub radix_word : List ℕ
  pub source_word : List ℕ
  pub target_word : List ℕ
  pub policy_word : List ℕ
  pub words : HasWords line (radix_word ∷ source_word ∷ target_word ∷ policy_word ∷ []) t.numeral
  pub radix : radix_word ≡ radix_text t.radix
  pub source : Names source_word t.source
  pub target : Names target_word t.target
  pub policy : NamesPolicy policy_word t.policy t.mode

-- ---- the answer to a task
-- the message of the kind for which the task's numeral is refused
pub record IsRefusalAnswer (t : Task) (answer : AnswerText) : Type 0 where
  pub kind : ParseErrorKind
  pub refusal : IsRefusal t.mode t.radix t.numeral t.policy t.source t.target kind
  pub answer_is : answer ≡ fault_answer (message_of kind)

-- the last word of an answer
abbrev pub verdict : Bool → List ℕ
verdict true = codes "overflowed"
verdict false = codes "fits"

-- the answer with a text, the bits in decimal, and whether a number was out of range of its format
abbrev pub respelled_answer : List ℕ → ℤ → Bool → AnswerText
respelled_answer text bits overflowed = record {
  text = text ++ space
      ∷ (signed_decimal bits ++ space ∷ verdict overflowed);
  fault = false;
}

-- the bits that are reached from the task's numeral, after their shortest decimal
pub record IsRespelledAnswer (t : Task) (answer : AnswerText) : Type 0 where
  pub bits : ℤ
  pub overflowed : Bool
  pub respelled : IsRespelled t.mode t.radix t.numeral t.policy t.source t.target bits overflowed
  pub text : List ℕ
  pub shortest : IsShortestText bits t.target.frac text
  pub answer_is : answer ≡ respelled_answer text bits overflowed

-- the answer to a task is one of the two
abbrev pub IsTaskAnswered : Task → AnswerText → Type 0
IsTaskAnswered t answer = IsRefusalAnswer t answer ⊎ IsRespelledAnswer t answer

-- ---- the answer
abbrev pub respell_language : (List ℕ → FormatParts → Type 0) → (List ℕ → Policy → ReadMode → Type 0) → Language
respell_language Names NamesPolicy = record {
  Fault = LineFault;
  rank = fault_rank;
  HasFault = HasFaultBy Names NamesPolicy;
  message = fault_message;
  Task = Task;
  Asks = AsksBy Names NamesPolicy;
  IsAnswered = IsTaskAnswered;
}

-- with mode words
abbrev pub HasFault : LineFault → List ℕ → Type 0
HasFault = HasFaultBy IsFormatWord IsPolicyWord

abbrev pub IsFirstFault : LineFault → List ℕ → Type 0
IsFirstFault = IsFirstFaultBy IsFormatWord IsPolicyWord

abbrev pub Asks : List ℕ → Task → Type 0
Asks = AsksBy IsFormatWord IsPolicyWord

-- the answer to the line, with mode words
abbrev pub IsAnswer : List ℕ → AnswerText → Type 0
IsAnswer = IsAnswerIn (respell_language IsFormatWord IsPolicyWord)

-- the answer to the line, as if there were no mode words
abbrev pub IsPlainAnswer : List ℕ → AnswerText → Type 0
IsPlainAnswer = IsAnswerIn (respell_language IsFormatWord IsPlainWord)

-- the answer to the line, with formats of any width by any of their names, and all modes
abbrev pub IsNamedAnswer : List ℕ → AnswerText → Type 0
IsNamedAnswer = IsAnswerIn (respell_language IsFormatName IsPolicyName)
