use Rattle.std.proofs.Common.{◌≡◌, ◌≤◌, ◌-◌, [], length}
use Rattle.column_engine.specs.Feeding.{IsStanding}
use Rattle.column_engine.specs.Run.{RunsOn}
use Rattle.column_engine.specs.Steps.{state_of}
use Rattle.column_engine.specs.Limits.{longest_text}
use Rattle.column_engine.proofs.run.answer_text.Given as goal

abbrev pub invariant-chunks : goal.invariant-chunks
invariant-chunks g l = record {
  same_source : g.S.Source.failures l.source ≡ g.S.Source.failures l.fn.source;
  same_sink : g.K.Sink.failures l.sink ≡ g.K.Sink.failures l.fn.sink;
  standing : IsStanding l.task.delimiter l.cutter.kept l.cutter.place;
  as_many : length l.cutter.progress.asked.items ≡ length l.task.columns.now;
  empty : l.work.out ≡ [];
  on : RunsOn (g.A.FieldRule.Answers l.task.rule.now) l.task.keeps l.task.delimiter l.task.columns.now
      l.cutter.kept (state_of l.fn.cutter.progress) (state_of l.cutter.progress) (g.S.Source.left l.fn.source) (g.S.Source.left l.source)
      (g.K.Sink.written l.fn.sink) (g.K.Sink.written l.sink);
  many : l.taken ≤ length on.so_far.bytes;
}

abbrev pub decreases-chunks : goal.decreases-chunks
decreases-chunks g l = longest_text - l.taken
