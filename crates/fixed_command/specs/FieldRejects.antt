-- What the rejects get of the fields of a text.
use Rattle.std.specs.Prelude.{◌≡◌, ◌==◌, ℕ, List, Bool, true, false, Option, Some, codes, drop, if◌then◌else◌}
use Rattle.std.specs.Prelude.{take}
use Rattle.std.specs.Cmp.Lexicographic.{pointwise}
use Rattle.column_engine.specs.Answers.{counted}
use Rattle.column_engine.specs.declared.watch.FieldPlace.{FieldPlace}
use Rattle.line_engine.specs.AnswerText.{AnswerText}
use Rattle.line_rejects.specs.Rejects.{HasReject, sight_of}
use Rattle.line_rejects.specs.declared.rejects.Rejects.{Rejects}
use Rattle.fixed_command.specs.Rejects.{name_of}

-- the cause in the reply to a refused field
abbrev pub cause_in : List ℕ → List ℕ
cause_in reply = if pointwise (λ a b. a == b) (take 7 reply) (codes "error: ") then drop 7 reply else reply

-- the line of rejects for a refused field, with its record and its column, from 1, was put
abbrev pub HasFieldReject : {J : Type 0} → (J → Option (List ℕ)) → (J → ℕ) → Rejects J → FieldPlace → List ℕ → List ℕ
    → Rejects J → Type 0
HasFieldReject written failures rejects place field reply after = HasReject (name_of rejects) place.record
    (Some (counted place.column 1)) field (cause_in reply) (sight_of written failures rejects)
    (sight_of written failures after) × (after.name ≡ rejects.name)

-- how the rejects change with a field, by whether it was refused
abbrev pub SawRejectBy : {J : Type 0} → Bool → (J → Option (List ℕ)) → (J → ℕ) → Rejects J → FieldPlace → List ℕ
    → List ℕ → Rejects J → Type 0
SawRejectBy true written failures rejects place field reply after = HasFieldReject written failures rejects place field
    reply after
SawRejectBy false written failures rejects place field reply after = after ≡ rejects

-- how the rejects change with the reply to a field
abbrev pub SawFieldReject : {J : Type 0} → (J → Option (List ℕ)) → (J → ℕ) → Rejects J → FieldPlace → List ℕ
    → AnswerText → Rejects J → Type 0
SawFieldReject written failures rejects place field reply after = SawRejectBy reply.fault written failures rejects place
    field reply.text after
