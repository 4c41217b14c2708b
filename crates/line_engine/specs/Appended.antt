-- What was appended: an answer, or a prefix of a text.
use Rattle.std.specs.Prelude.{◌≡◌, ℕ, ◌≤◌, List, ◌++◌, Bool, length}
use Rattle.std.specs.declared.option.Option.{Option}
use Rattle.std.specs.Io.KnownBytes.{Appends}
use Rattle.line_engine.specs.AnswerText.{AnswerText}

-- the answer to `line`, of at most `most` bytes, was appended to the bytes gathered before; `fault` says whether it
-- reports a fault
pub record AppendsAnswer (A : List ℕ → AnswerText → Type 0)
    (most : ℕ) (line before after : List ℕ) (fault : Bool) : Type 0 where
  pub text : List ℕ
  pub answer : A line (record { text = text; fault = fault })
  pub appended : after ≡ before ++ text
  pub short : length text ≤ most

-- the known bytes grew by a prefix of `bs`
pub record AppendsPrefix (old new : Option (List ℕ)) (bs : List ℕ) : Type 0 where
  pub prefix : List ℕ
  pub rest : List ℕ
  pub split : bs ≡ prefix ++ rest
  pub appends : Appends old new prefix
