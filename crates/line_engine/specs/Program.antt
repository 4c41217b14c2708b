-- What a program leaves, and the exit code of its process.
use Rattle.std.specs.Prelude.{◌≡◌, ℕ, List}
use Rattle.std.specs.declared.option.Option.{Option}
use Rattle.line_engine.specs.Asked.{Asked}
use Rattle.line_engine.specs.Status.{code_of}
use Rattle.line_engine.specs.declared.status.Status.{Status}

-- what contracts see of a source, a sink and a counter of steps at one moment: the bytes left and those requested, the
-- bytes written, how often reads and writes failed, and the steps taken
pub record Outside : Type 0 where
  pub left : Option (List ℕ)
  pub asked : Option Asked
  pub read_failures : ℕ
  pub written : Option (List ℕ)
  pub write_failures : ℕ
  pub steps : ℕ

abbrev pub outside : Option (List ℕ) → Option Asked → ℕ → Option (List ℕ) → ℕ → ℕ → Outside
outside left asked read_failures written write_failures steps = record {
  left = left;
  asked = asked;
  read_failures = read_failures;
  written = written;
  write_failures = write_failures;
  steps = steps;
}

-- nothing was read or requested
pub record ReadsNothing (before after : Outside) : Type 0 where
  pub left : after.left ≡ before.left
  pub asked : after.asked ≡ before.asked
  pub failures : after.read_failures ≡ before.read_failures

-- nothing was written
pub record WritesNothing (before after : Outside) : Type 0 where
  pub written : after.written ≡ before.written
  pub failures : after.write_failures ≡ before.write_failures

-- `code` is the exit code of a status that satisfies `P`
pub record EndsAs (P : Status → Type 0) (code : ℕ) : Type 0 where
  pub status : Status
  pub holds : P status
  pub code_is : code ≡ code_of status
