-- Laws of the lines of rejects.
use Rattle.std.specs.Prelude.{◌≡◌, ℕ, List, Option}
use Rattle.line_rejects.specs.Rejects.{IsRejectLine}

-- a refused line has one line of rejects
abbrev pub RejectLineIsTheOne : Type 0
RejectLineIsTheOne = (name : Option (List ℕ)) (number : ℕ) (place : Option ℕ) (text cause a b : List ℕ)
    → IsRejectLine name number place text cause a → IsRejectLine name number place text cause b → a ≡ b
