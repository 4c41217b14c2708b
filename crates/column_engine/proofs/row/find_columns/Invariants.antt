use Rattle.std.proofs.Common.{◌≡◌, length, take}
use Rattle.column_engine.specs.Answers.{AreFound}
use Rattle.column_engine.specs.Rows.{field_texts}
use Rattle.column_engine.proofs.row.find_columns.Given as goal

abbrev pub invariant-columns : goal.invariant-columns
invariant-columns l = record {
  as_many : length l.asked ≡ length l.columns;
  found : AreFound (field_texts l.delimiter l.header) (take l.at l.columns) (take l.at l.asked);
}
