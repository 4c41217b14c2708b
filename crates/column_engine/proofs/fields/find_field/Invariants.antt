use Rattle.std.proofs.Common.{◌≡◌, ◌≤◌, ◌-◌, ◌++◌, List, ℕ, drop, length, map, take}
use Rattle.column_engine.specs.Answers.{answers_text, before_field}
use Rattle.column_engine.specs.Gathered.{unanswered}
use Rattle.column_engine.specs.Rows.{raw_fields}
use Rattle.column_engine.specs.declared.place.Place.TheVariants.{Start}
use Rattle.column_engine.proofs.fields.find_field.Given as goal

abbrev pub invariant-fields : goal.invariant-fields
invariant-fields l = record {
  some : List (List ℕ);
  cut : raw_fields l.delimiter Start l.body ≡ some ++ raw_fields l.delimiter Start (drop l.start l.body);
  many : l.count ≡ length some;
  fits : l.start ≤ length l.body;
  span : l.count ≤ l.start;
  low : l.count ≤ l.column;
  before : take l.start l.body ≡ answers_text l.delimiter 0 (map unanswered some) ++ before_field l.delimiter l.count;
}

abbrev pub decreases-fields : goal.decreases-fields
decreases-fields l = length l.body - l.start
