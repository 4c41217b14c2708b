-- Inputs with another byte than a point before fractions.
use Rattle.std.specs.Prelude.{ℕ, List, map}
use Rattle.line_engine.specs.AnswerText.{AnswerText}
use Rattle.fixed_command.specs.Fields.{swapped}

-- by the meaning `A` of an answer, the answer is that to an input with the decimal separator and the point in each
-- other's places
abbrev pub IsSwappedAnswer : ℕ → (List ℕ → AnswerText → Type 0) → List ℕ → AnswerText → Type 0
IsSwappedAnswer decimal A input answer = A (map (swapped decimal) input) answer
