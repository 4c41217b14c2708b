use Rattle.std.proofs.Common.{◌≡◌, ◌≤◌, length}
use Rattle.column_engine.specs.Passing.{IsPassing}
use Rattle.column_engine.proofs.skip.pass_lines.Given as goal

abbrev pub invariant-bytes : goal.invariant-bytes
invariant-bytes g l = record {
  same_source : g.S.Source.failures l.source ≡ g.S.Source.failures l.initial.source;
  same_sink : g.K.Sink.failures l.sink ≡ g.K.Sink.failures l.initial.sink;
  passing : IsPassing l.count l.left l.out (g.S.Source.left l.initial.source) (g.S.Source.left l.source)
      (g.K.Sink.written l.initial.sink) (g.K.Sink.written l.sink);
  many : l.at ≤ length passing.bytes;
}
