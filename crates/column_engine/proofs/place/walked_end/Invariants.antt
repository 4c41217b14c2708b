use Rattle.std.proofs.Common.{◌≡◌, ◌≤◌, ◌-◌, length, take, drop}
use Rattle.column_engine.specs.Rows.{raw_fields}
use Rattle.column_engine.specs.declared.place.Place.TheVariants.{Start}
use Rattle.column_engine.proofs.RowLemmas.{onto}
use Rattle.column_engine.proofs.place.walked_end.Given as goal

abbrev pub invariant-bytes : goal.invariant-bytes
invariant-bytes l = record {
  within : l.at ≤ length l.body;
  fields : raw_fields l.delimiter Start l.body ≡ onto (take l.at l.body) (raw_fields l.delimiter l.place (drop l.at l.body));
}

abbrev pub decreases-bytes : goal.decreases-bytes
decreases-bytes l = length l.body - l.at
