-- What an observer records of refused lines.
use Rattle.std.specs.Prelude.{◌≡◌, ℕ, List, [], ◌∷◌, Option, Some, None, Result, Ok, Err, take}
use Rattle.run_engine.specs.LineRun.{SawAll, one_more}
use Rattle.run_engine.specs.declared.refusals.RefusedLine.{RefusedLine}
use Rattle.run_engine.specs.declared.refusals.Refusals.{Refusals}

-- the record of a refused line, with its number and at most its first 160 bytes
abbrev pub refused_line : {C : Type 0} → ℕ → List ℕ → C → RefusedLine C
refused_line number line cause = record { number = number; line = take 160 line; cause = cause }

-- the first record stays
abbrev pub first_or : {C : Type 0} → Option (RefusedLine C) → Option (RefusedLine C) → Option (RefusedLine C)
first_or None next = next
first_or (Some first) next = Some first

-- the observer's record after one more line
abbrev pub Counts : {C : Type 0} → Refusals C → ℕ → List ℕ → Option C → Refusals C → Type 0
Counts watch number line None then = then ≡ watch
Counts watch number line (Some cause) then = (then.count ≡ one_more watch.count)
    × (then.first ≡ first_or watch.first (Some (refused_line number line cause)))

-- the cause in a result, if any
abbrev pub cause_of : {N C : Type 0} → Result N C → Option C
cause_of (Ok note) = None
cause_of (Err cause) = Some cause

-- how the observer of refused lines changes with the result of a line
abbrev pub SawRefused : {N C : Type 0} → Refusals C → ℕ → List ℕ → Result N C → Refusals C → Type 0
SawRefused watch number line result then = Counts watch number line (cause_of result) then

-- the count of refused lines, after `count` and these
abbrev pub refused_of : {N C : Type 0} → ℕ → List (Result N C) → ℕ
refused_of count [] = count
refused_of count (Ok note ∷ results) = refused_of count results
refused_of count (Err cause ∷ results) = refused_of (one_more count) results

-- the record of the first refused line among these, which follow `count` others
abbrev pub first_of : {N C : Type 0} → ℕ → List (List ℕ) → List (Result N C) → Option (RefusedLine C)
first_of count [] results = None
first_of count (line ∷ lines) [] = None
first_of count (line ∷ lines) (Ok note ∷ results) = first_of (one_more count) lines results
first_of count (line ∷ lines) (Err cause ∷ results) = Some (refused_line (one_more count) line cause)

-- an observer that has seen these lines has the count of the refused ones and the record of the first
abbrev pub KeepsTheFirst : (N : Type 0) → {C : Type 0} → Refusals C → Type 0
KeepsTheFirst N {C = C} watch = (count total : ℕ) (lines : List (List ℕ)) (results : List (Result N C))
    (last : Refusals C) → SawAll SawRefused watch count lines results last total
    → (last.count ≡ refused_of watch.count results) × (last.first ≡ first_or watch.first (first_of count lines results))
