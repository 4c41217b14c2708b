use Rattle.std.proofs.Common.{◌≡◌, ◌≤◌, ◌+◌, length}
use Rattle.column_engine.specs.Rows.{raw_fields}
use Rattle.column_engine.specs.declared.place.Place.TheVariants.{Start}
use Rattle.column_engine.proofs.row.lacking.Given as goal

abbrev pub invariant-fields : goal.invariant-fields
invariant-fields l = record {
  count_is : length (raw_fields l.delimiter Start l.body) + 1 ≡ l.count + length (raw_fields l.delimiter Start l.rest);
  fits : l.count + length l.rest ≤ length l.body + 1;
}

abbrev pub decreases-fields : goal.decreases-fields
decreases-fields l = length l.rest
