-- A program over the streams and the arguments of its process.
use Rattle.std.specs.Prelude.{◌≡◌, ℕ}
use Rattle.std.specs.declared.io.ErrorKind.{ErrorKind}
use Rattle.std.specs.declared.io.ErrorKind.TheVariants.{OutOfMemory}
use Rattle.line_engine.specs.Program.{Outside}
use Rattle.line_engine.specs.declared.status.Status.{Status}
use Rattle.line_engine.specs.declared.program.NoArgs.{NoArgs}
use Rattle.line_engine.specs.declared.program.NoArgs.TheVariants.{NoMemory, NotText}

-- the reason for missing arguments, by the kind of the error: lack of memory exactly if the kind says so
abbrev pub IsWhy : ErrorKind → NoArgs → Type 0
IsWhy kind NoMemory = kind ≡ OutOfMemory
IsWhy kind NotText = ¬ (kind ≡ OutOfMemory)

-- a run with a new counter of steps led from `before` to `after`, which are functions of the steps
pub record RunsBetween (before after : ℕ → Outside) (Runs : Outside → Outside → Status
    → Type 0) (status : Status) : Type 0 where
  pub steps : ℕ
  pub runs : Runs (before 0) (after steps) status
