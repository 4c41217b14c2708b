use Rattle.std.proofs.Common.{◌≡◌, ◌≤◌, ◌-◌, length, take}
use Rattle.column_engine.specs.Rows.{IsUnended, places_after}
use Rattle.column_engine.proofs.place.record_end.Given as goal

abbrev pub invariant-bytes : goal.invariant-bytes
invariant-bytes l = record {
  within : l.at ≤ length l.bytes;
  unended : IsUnended l.delimiter l.fn.from (take l.at l.bytes);
  place_is : l.place ≡ places_after l.delimiter l.fn.from (take l.at l.bytes);
}

abbrev pub decreases-bytes : goal.decreases-bytes
decreases-bytes l = length l.bytes - l.at
