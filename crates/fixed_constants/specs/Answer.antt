-- The answer to a constants file.
use Rattle.std.specs.Prelude.{◌≡◌, ◌⊎◌, ℕ, List, [], ◌∷◌, ◌++◌, true, false, codes, decimal}
use Rattle.fixed_numeral.specs.Messages.{message_of}
use Rattle.line_engine.specs.AnswerText.{AnswerText}
use Rattle.fixed_constants.specs.Canonical.{canonical_text}
use Rattle.fixed_constants.specs.Constants.{ConstantParts, IsConstantsOf, IsFaultOf}
use Rattle.fixed_constants.specs.declared.fault.ConstantFault.{ConstantFault}
use Rattle.fixed_constants.specs.declared.fault.ConstantFault.TheVariants.{MissingField, BadName, MissingEquals}
use Rattle.fixed_constants.specs.declared.fault.ConstantFault.TheVariants.{BadFormat, BadLiteral, Duplicate}

-- the message of a fault
abbrev pub fault_message : ConstantFault → List ℕ
fault_message MissingField = codes "missing field"
fault_message BadName = codes "bad name"
fault_message MissingEquals = codes "missing equals sign"
fault_message BadFormat = codes "bad format"
fault_message (BadLiteral kind) = message_of kind
fault_message (Duplicate first) = codes "duplicate of line " ++ decimal first

-- the line written for a fault on line `p`
abbrev pub fault_line : ℕ → ConstantFault → List ℕ
fault_line p fault = codes "error: line " ++ (decimal p ++ (codes ": " ++ (fault_message fault ++ 10 ∷ [])))

-- the answer is the canonical text of the input's constants
pub record IsCanonicalAnswer (input : List ℕ) (answer : AnswerText) : Type 0 where
  pub constants : List ConstantParts
  pub are : IsConstantsOf input constants
  pub text : answer.text ≡ canonical_text constants
  pub fault : answer.fault ≡ false

-- the answer is the line of the input's first fault
pub record IsFaultAnswer (input : List ℕ) (answer : AnswerText) : Type 0 where
  pub line : ℕ
  pub why : ConstantFault
  pub is : IsFaultOf input line why
  pub text : answer.text ≡ fault_line line why
  pub fault : answer.fault ≡ true

-- the answer to an input
abbrev pub IsWholeAnswer : List ℕ → AnswerText → Type 0
IsWholeAnswer input answer = IsCanonicalAnswer input answer ⊎ IsFaultAnswer input answer
