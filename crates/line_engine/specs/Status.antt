-- The exit codes of the statuses.
use Rattle.std.specs.Prelude.{ℕ}
use Rattle.line_engine.specs.declared.status.Status.{Status}
use Rattle.line_engine.specs.declared.status.Status.TheVariants.{Done, Faults, Usage, ReadFault, WriteFault, NoMemory}
use Rattle.line_engine.specs.declared.status.Status.TheVariants.{TooLong}

-- the exit code of the program
abbrev pub code_of : Status → ℕ
code_of Done = 0
code_of Faults = 1
code_of Usage = 2
code_of ReadFault = 3
code_of WriteFault = 4
code_of NoMemory = 5
code_of TooLong = 6
