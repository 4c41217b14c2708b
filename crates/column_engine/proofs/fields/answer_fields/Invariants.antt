use Rattle.std.proofs.Common.{◌≡◌, ◌≤◌, ◌-◌, ◌++◌, List, ℕ, drop, length}
use Rattle.column_engine.specs.Answers.{before_field}
use Rattle.column_engine.specs.Gathered.{GathersFields, ahead}
use Rattle.column_engine.specs.Rows.{raw_fields}
use Rattle.column_engine.specs.Seen.{OnlySaw, SeesFields, place_in}
use Rattle.column_engine.specs.declared.place.Place.TheVariants.{Start}
use Rattle.column_engine.proofs.fields.answer_fields.Given as goal

abbrev pub invariant-fields : goal.invariant-fields
invariant-fields g l = record {
  same : g.K.Sink.failures l.sink ≡ g.K.Sink.failures l.initial.sink;
  some : List (List ℕ);
  cut : raw_fields l.task.delimiter Start l.body ≡ some ++ raw_fields l.task.delimiter Start (drop l.start l.body);
  many : l.column ≡ length some;
  low : l.from ≤ l.start;
  fits : l.start ≤ length l.body;
  span : l.column ≤ l.start;
  few : l.refused ≤ l.column;
  before : List ℕ;
  fields : GathersFields (g.A.FieldRule.Answers l.task.rule.now) l.task.keeps l.task.delimiter l.asked 0 some l.refused l.initial.work.out before
      (g.K.Sink.written l.initial.sink) (g.K.Sink.written l.sink);
  seen : OnlySaw (SeesFields (g.A.FieldRule.Answers l.task.rule.now) (g.W.FieldWatch.Saw l.task.rule.now) l.asked (place_in l.initial.work.records) 0 some)
      l.initial.work.records l.work.records;
  held : before ++ before_field l.task.delimiter l.column ≡ ahead l.work.out l.body l.from l.start;
}

abbrev pub decreases-fields : goal.decreases-fields
decreases-fields g l = length l.body - l.start
