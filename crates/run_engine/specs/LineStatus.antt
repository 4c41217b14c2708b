-- The status for each end of a run over lines.
use Rattle.std.specs.Prelude.{◌≡◌}
use Rattle.std.specs.declared.convert.Infallible.{Infallible}
use Rattle.line_engine.specs.declared.status.Status.{Status}
use Rattle.line_engine.specs.declared.status.Status.TheVariants as status
use Rattle.run_engine.specs.declared.engine.End.{End}
use Rattle.run_engine.specs.declared.engine.End.TheVariants.{Done, Faults, ReadFault, WriteFault, NoMemory, TooLong}
use Rattle.run_engine.specs.declared.engine.End.TheVariants.{Stopped}

abbrev pub IsStatus : End Infallible → Status → Type 0
IsStatus Done s = s ≡ status.Done
IsStatus Faults s = s ≡ status.Faults
IsStatus ReadFault s = s ≡ status.ReadFault
IsStatus WriteFault s = s ≡ status.WriteFault
IsStatus TooLong s = s ≡ status.TooLong
IsStatus NoMemory s = s ≡ status.NoMemory
IsStatus (Stopped never) s = ⊥
