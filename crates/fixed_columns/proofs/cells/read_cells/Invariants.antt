use Rattle.std.proofs.Common.{length}
use Rattle.fixed_columns.proofs.ReadingLemmas.{ReadUpTo}
use Rattle.fixed_columns.proofs.cells.read_cells.Given as goal

abbrev pub invariant-loop-rest : goal.invariant-loop-rest
invariant-loop-rest l = ReadUpTo l.text l.rest l.number l.cells.items

abbrev pub decreases-loop-rest : goal.decreases-loop-rest
decreases-loop-rest l = length l.rest
