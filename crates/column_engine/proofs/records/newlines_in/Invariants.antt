use Rattle.std.proofs.Common.{◌≤◌, length}
use Rattle.column_engine.proofs.records.newlines_in.Given as goal

abbrev pub invariant-newlines : goal.invariant-newlines
invariant-newlines l = record {
  short : length l.rest ≤ length l.bytes;
}

abbrev pub decreases-newlines : goal.decreases-newlines
decreases-newlines l = length l.rest
