use Rattle.std.proofs.Common.{◌≡◌, ◌++◌, List, ℕ, length}
use Rattle.std.specs.Io.KnownBytes.{Appends}
use Rattle.line_engine.proofs.writing.write_whole.Given as goal

abbrev pub invariant-loop-rest : goal.invariant-loop-rest
invariant-loop-rest g l = record {
  same : g.K.Sink.failures l.sink ≡ g.K.Sink.failures l.initial.sink;
  prefix : List ℕ;
  split : l.piece ≡ prefix ++ l.rest;
  appends : Appends (g.K.Sink.written l.initial.sink) (g.K.Sink.written l.sink) prefix;
}

abbrev pub decreases-loop-rest : goal.decreases-loop-rest
decreases-loop-rest g l = length l.rest
