use Rattle.std.proofs.Common.{◌≡◌, map, take}
use Rattle.column_engine.specs.Run.{first_range}
use Rattle.column_engine.proofs.run.first_ranges.Given as goal

abbrev pub invariant-columns : goal.invariant-columns
invariant-columns l = l.asked.items ≡ map first_range (take l.at l.columns)
