use Rattle.std.proofs.Common.{◌≡◌, ◌≤◌, ◌+◌, ◌*◌, ◌++◌, ◌∷◌, length, drop}
use Rattle.csv.specs.Writing.{default_writer, escaped}
use Rattle.column_engine.proofs.field.push_quoted.Given as goal

abbrev pub invariant-bytes : goal.invariant-bytes
invariant-bytes l = record {
  shown_is : l.fn.shown ++ 34 ∷ escaped (record default_writer { delimiter = l.delimiter }) l.text ≡ l.shown ++ escaped (record default_writer { delimiter = l.delimiter }) (drop l.at l.text);
  short : length l.shown ≤ length l.fn.shown + 2 * l.at + 1;
}
