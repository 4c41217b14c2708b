-- Contracts of private functions.
use Rattle.std.specs.Prelude.{◌≡◌, ℕ, List, MatchOption, None, Option, Some}
use Rattle.std.specs.Borrow.{Bor}
use Rattle.json_lines.specs.Path.{PathStep, step_of}
use Rattle.json_lines.specs.declared.path.Step.{Step}

-- a step and the text after it, if there is one
abbrev pub IsFirst : Option (PathStep × List ℕ) → Option (Step × Bor (List ℕ)) → Type 0
IsFirst first result = MatchOption result (first ≡ None) (λ found. first ≡ Some (step_of found.0, found.1.now))
