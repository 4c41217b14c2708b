-- The visible part of the answer to a line.
use Rattle.std.specs.Prelude.{ℕ, List, Bool}

-- the bytes of an answer, and whether they report a fault
pub record AnswerText : Type 0 where
  pub text : List ℕ
  pub fault : Bool
