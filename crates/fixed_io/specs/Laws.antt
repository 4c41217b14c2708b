-- The statements of this crate's laws.
use Rattle.std.specs.Prelude.{◌≡◌, ◌<◌, ◌-◌, ◌^◌, ℕ, List, Some}
use Rattle.std.specs.declared.io.ErrorKind.{ErrorKind}
use Rattle.line_engine.specs.Program.{EndsAs, Outside}
use Rattle.line_engine.specs.declared.program.NoArgs.{NoArgs}
use Rattle.line_engine.specs.declared.status.Status.{Status}
use Rattle.fixed_io.specs.Process.{IsWhy, RunsBetween}
use Rattle.fixed_io.specs.Report.{TellsEnd}

-- the kind of an error determines the reason for missing arguments
abbrev pub WhyIsTheOne : Type 0
WhyIsTheOne = (kind : ErrorKind) (a b : NoArgs) → IsWhy kind a → IsWhy kind b → a ≡ b

-- a run has one report, if no write of the report failed
abbrev pub ReportIsTheOne : Type 0
ReportIsTheOne = (place : List ℕ) (code answered : ℕ) (before a b : List ℕ) (failures : ℕ) → failures < 2 ^ 64 - 1
    → TellsEnd place code answered (Some before) (Some a) failures failures
    → TellsEnd place code answered (Some before) (Some b) failures failures → a ≡ b

-- if the states before and after a run determine its status, whatever its steps, they determine the code of its process
abbrev pub RunBetweenIsTheOne : (Outside → Outside → Status → Type 0) → Type 0
RunBetweenIsTheOne Runs = (before after : ℕ → Outside) (code other : ℕ)
    → ((m n : ℕ) (s t : Status) → Runs (before 0) (after m) s → Runs (before 0) (after n) t → s ≡ t)
    → EndsAs (RunsBetween before after Runs) code → EndsAs (RunsBetween before after Runs) other → code ≡ other
