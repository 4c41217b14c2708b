use Rattle.std.proofs.Common.{arith, refl, sym}
use Rattle.std.proofs.lemmas.Option.{slice_get_past}
use Rattle.fixed_columns.proofs.ColumnLemmas.{all_written, one_more}
use Rattle.fixed_columns.proofs.column_text.write_cells.Goals as goal

pub loop-i-preserved : goal.loop-i-preserved
loop-i-preserved c = one_more c.args.style.now c.args.cells.now c.loop-i.i _ c.in-Some.cell c.loop-i.bytes.items c.push_cell.new.text.items (sym c.in-Some.ensures) refl c.in_ok-push_cell.ensures c.loop-i.invariant

pub returns : goal.returns
returns c = all_written c.args.style.now c.args.cells.now c.loop-i.i c.loop-i.bytes.items (slice_get_past c.args.cells.now c.loop-i.i (omega (arith, c.loop-i-test.false, c.len-i-end.ensures))) c.loop-i.invariant
