-- The statements of this crate's laws.
use Rattle.std.specs.Prelude.{◌≡◌, ℕ, List}
use Rattle.line_engine.specs.AnswerText.{AnswerText}
use Rattle.fixed_arrays.specs.Answer.{IsArrayAnswer}
use Rattle.fixed_arrays.specs.Literals.{HasLiteralsFault, IsLiteralArrayAnswer}
use Rattle.fixed_arrays.specs.declared.fault.LiteralsFault.{LiteralsFault}
use Rattle.fixed_arrays.specs.declared.literal_rule.LiteralArrayRule.{LiteralArrayRule}
use Rattle.fixed_arrays.specs.declared.rule.ArrayRule.{ArrayRule}

-- an input has one answer
abbrev pub ArrayAnswerIsTheOne : Type 0
ArrayAnswerIsTheOne = (r : ArrayRule) (input : List ℕ) (a b : AnswerText) → IsArrayAnswer r input a
    → IsArrayAnswer r input b → a ≡ b

-- a file of named literals has one answer
abbrev pub LiteralArrayAnswerIsTheOne : Type 0
LiteralArrayAnswerIsTheOne = (r : LiteralArrayRule) (text : List ℕ) (a b : AnswerText) → IsLiteralArrayAnswer r text a
    → IsLiteralArrayAnswer r text b → a ≡ b

-- a file of named literals has at most one first fault
abbrev pub LiteralsFaultIsTheOne : Type 0
LiteralsFaultIsTheOne = (text : List ℕ) (a b : LiteralsFault) → HasLiteralsFault text a → HasLiteralsFault text b
    → a ≡ b
