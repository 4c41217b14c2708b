use Rattle.std.proofs.Common.{◌≡◌, ◌++◌, length}
use Rattle.column_engine.specs.Feeding.{FeedsRows, IsStanding}
use Rattle.column_engine.specs.Steps.{state_of}
use Rattle.column_engine.proofs.cutter.feed.Given as goal

abbrev pub invariant-rows : goal.invariant-rows
invariant-rows g l = record {
  same : g.K.Sink.failures l.sink ≡ g.K.Sink.failures l.initial.sink;
  standing : IsStanding l.task.delimiter l.cutter.kept l.cutter.place;
  as_many : length l.cutter.progress.asked.items ≡ length l.task.columns.now;
  fed : FeedsRows (g.A.FieldRule.Answers l.task.rule.now) l.task.keeps l.task.delimiter l.task.columns.now
      (l.initial.cutter.kept ++ l.chunk) (l.cutter.kept ++ l.rest) (state_of l.initial.cutter.progress) (state_of l.cutter.progress)
      l.initial.work.out l.work.out (g.K.Sink.written l.initial.sink) (g.K.Sink.written l.sink);
}

abbrev pub decreases-rows : goal.decreases-rows
decreases-rows g l = length l.rest
