use Rattle.std.proofs.Common.{◌≡◌, ◌≤◌, ◌++◌, drop, length}
use Rattle.column_engine.specs.Rows.{content}
use Rattle.column_engine.specs.declared.place.Place.TheVariants.{Start}
use Rattle.column_engine.proofs.name.write_name.Given as goal

abbrev pub invariant-bytes : goal.invariant-bytes
invariant-bytes g l = record {
  text_is : content Start l.raw ≡ l.name ++ content l.place (drop l.at l.raw);
  short : length l.name ≤ g.row.N;
}
