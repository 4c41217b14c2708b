use Rattle.std.proofs.Common.{◌≡◌, drop}
use Rattle.csv.specs.Writing.{default_writer, needs_quotes}
use Rattle.column_engine.proofs.field.has_special.Given as goal

abbrev pub invariant-bytes : goal.invariant-bytes
invariant-bytes l = needs_quotes (record default_writer { delimiter = l.delimiter }) l.text ≡ needs_quotes (record default_writer { delimiter = l.delimiter }) (drop l.at l.text)
