-- A run is determined: its reads and writes determine its output, its status and its report.
use Rattle.std.specs.Prelude.{◌≡◌, ℕ, ◌-◌, ◌^◌, ◌<◌, List, Some, length}
use Rattle.std.specs.declared.option.Option.{Option}
use Rattle.fixed_command.specs.Runs.{Undisturbed}
use Rattle.fixed_io.specs.Process.{RunsBetween}
use Rattle.fixed_io.specs.Report.{TellsEnd}
use Rattle.line_engine.specs.Asked.{Asked}
use Rattle.line_engine.specs.Program.{EndsAs, Outside, outside}
use Rattle.line_engine.specs.Status.{code_of}
use Rattle.line_engine.specs.declared.status.Status.{Status}
use Rattle.line_engine.specs.declared.status.Status.TheVariants.{NoMemory, WriteFault}

-- two texts written by runs with this status are equal if no write failed, or if they are equally long
pub record IsOneText (status : Status) (a b : List ℕ) : Type 0 where
  pub whole : ¬ (status ≡ WriteFault) → a ≡ b
  pub as_long : length a ≡ length b → a ≡ b

-- two runs from one state of the outside end alike and write one text if the bytes left and the counts of failures are
-- the same after both, the counts could rise, and memory sufficed
abbrev pub RunIsTheOne : (Outside → Outside → Status → Type 0) → Type 0
RunIsTheOne Runs = (left left' written a b : List ℕ) (read read' write write' steps m n : ℕ)
    (asked asked' asked'' : Option Asked) (s t : Status)
    → read < 2 ^ 64 - 1 → write < 2 ^ 64 - 1 → ¬ (s ≡ NoMemory) → ¬ (t ≡ NoMemory)
    → Runs (outside (Some left) asked read (Some written) write steps)
    (outside (Some left') asked' read' (Some a) write' m) s
    → Runs (outside (Some left) asked read (Some written) write steps)
    (outside (Some left') asked'' read' (Some b) write' n) t
    → (s ≡ t) × IsOneText s a b

-- two runs over one input end alike and write the same if memory sufficed and no read or write failed
abbrev pub CalmRunIsTheOne : (Outside → Outside → Status → Type 0) → Type 0
CalmRunIsTheOne Runs = (before after other : Outside) (input written a b : List ℕ) (s t : Status)
    → before.left ≡ Some input → before.written ≡ Some written → after.written ≡ Some a → other.written ≡ Some b
    → Undisturbed before after → Undisturbed before other → ¬ (s ≡ NoMemory) → ¬ (t ≡ NoMemory)
    → Runs before after s → Runs before other t → (s ≡ t) × (a ≡ b)

-- the state of the outside after the run of a process by `run_process` determines its exit code and its report, if the
-- counts of failures could rise, memory sufficed and no write of the report failed
abbrev pub ProcessIsTheOne : (Outside → Outside → Status → Type 0) → Type 0
ProcessIsTheOne Runs = (left left' written a : List ℕ) (read read' write write' : ℕ) (asked asked' : Option Asked)
    (place : List ℕ) (code other answered : ℕ) (told x y : List ℕ) (failures : ℕ)
    → read < 2 ^ 64 - 1 → write < 2 ^ 64 - 1 → failures < 2 ^ 64 - 1
    → ¬ (code ≡ code_of NoMemory) → ¬ (other ≡ code_of NoMemory)
    → EndsAs (RunsBetween (λ n. outside (Some left) asked read (Some written) write n)
    (λ n. outside (Some left') asked' read' (Some a) write' n) Runs) code
    → EndsAs (RunsBetween (λ n. outside (Some left) asked read (Some written) write n)
    (λ n. outside (Some left') asked' read' (Some a) write' n) Runs) other
    → TellsEnd place code answered (Some told) (Some x) failures failures
    → TellsEnd place other answered (Some told) (Some y) failures failures
    → (code ≡ other) × (x ≡ y)

-- all three laws hold of `Runs`
pub record RunsAreTheOnes (Runs : Outside → Outside → Status → Type 0) : Type 0 where
  pub run : RunIsTheOne Runs
  pub calm : CalmRunIsTheOne Runs
  pub process : ProcessIsTheOne Runs
