use Rattle.fixed_columns.proofs.ColumnLemmas.{WrittenUpTo}
use Rattle.fixed_columns.proofs.column_text.write_cells.Given as goal

abbrev pub invariant-loop-i : goal.invariant-loop-i
invariant-loop-i l = WrittenUpTo l.style l.cells l.i l.bytes.items
