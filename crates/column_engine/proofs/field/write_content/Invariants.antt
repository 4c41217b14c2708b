use Rattle.std.proofs.Common.{◌≡◌, ◌≤◌, ◌++◌, length, drop}
use Rattle.column_engine.specs.Rows.{content}
use Rattle.column_engine.specs.declared.place.Place.TheVariants.{Start}
use Rattle.column_engine.proofs.field.write_content.Given as goal

abbrev pub invariant-bytes : goal.invariant-bytes
invariant-bytes l = record {
  text_is : content Start l.raw ≡ l.text ++ content l.place (drop l.at l.raw);
  short : length l.text ≤ l.at;
}
