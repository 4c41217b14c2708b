-- The runs of each program, for any arguments, and of each task of the command are determined.
use Rattle.std.specs.Prelude.{List, Option, String, ℕ}
use Rattle.std.specs.declared.alloc.Global.{Global}
use Rattle.fixed_columns.specs.Program.{HasColumnsRun}
use Rattle.fixed_command.specs.Runs.{TaskRuns}
use Rattle.fixed_command.specs.declared.task.Task.{Task}
use Rattle.fixed_constants.specs.Program.{HasFormRun}
use Rattle.fixed_enclose.specs.ProgramRun.{HasEncloseRun}
use Rattle.fixed_least.specs.Program.{HasLeastRun}
use Rattle.fixed_respell.specs.ProgramRun.{HasProgramRun}
use Rattle.program_laws.specs.Runs.{RunsAreTheOnes}

abbrev pub ProgramRunsAreTheOnes : Type 0
ProgramRunsAreTheOnes = (args : List (String Global)) → RunsAreTheOnes (HasProgramRun args)

abbrev pub EncloseRunsAreTheOnes : Type 0
EncloseRunsAreTheOnes = (args : List (String Global)) → RunsAreTheOnes (HasEncloseRun args)

abbrev pub LeastRunsAreTheOnes : Type 0
LeastRunsAreTheOnes = (args : List (String Global)) → RunsAreTheOnes (HasLeastRun args)

abbrev pub FormRunsAreTheOnes : Type 0
FormRunsAreTheOnes = (args : List (String Global)) → RunsAreTheOnes (HasFormRun args)

abbrev pub ColumnsRunsAreTheOnes : Type 0
ColumnsRunsAreTheOnes = (args : List (String Global)) → RunsAreTheOnes (HasColumnsRun args)

abbrev pub TaskRunsAreTheOnes : Type 0
TaskRunsAreTheOnes = (limit : Option ℕ) (task : Task) → RunsAreTheOnes (TaskRuns limit task)
