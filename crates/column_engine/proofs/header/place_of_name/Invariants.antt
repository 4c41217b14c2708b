use Rattle.std.proofs.Common.{◌≡◌, ◌≢◌, ◌≤◌, ◌<◌, ◌+◌, ◌++◌, List, ℕ, [], length, get_or, map}
use Rattle.column_engine.specs.Rows.{content, raw_fields}
use Rattle.column_engine.specs.declared.place.Place.TheVariants.{Start}
use Rattle.column_engine.proofs.header.place_of_name.Given as goal

abbrev pub invariant-fields : goal.invariant-fields
invariant-fields l = record {
  some : List (List ℕ);
  cut : map (content Start) (raw_fields l.delimiter Start l.header) ≡ some ++ map (content Start) (raw_fields l.delimiter Start l.rest);
  many : l.column ≡ length some;
  others : (k : ℕ) → k < length some → get_or some k [] ≢ l.name;
  fits : l.column + length l.rest ≤ length l.header;
}

abbrev pub decreases-fields : goal.decreases-fields
decreases-fields l = length l.rest
