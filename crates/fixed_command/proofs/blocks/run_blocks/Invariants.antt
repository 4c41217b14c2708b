use Rattle.std.proofs.Common.{◌≡◌, length, map}
use Rattle.fixed_command.proofs.BlockLemmas.{HasWritten}
use Rattle.fixed_command.proofs.blocks.run_blocks.Given as goal

abbrev pub invariant-loop-rest : goal.invariant-loop-rest
invariant-loop-rest g l = record {
  same : g.K.Sink.failures l.sink ≡ g.K.Sink.failures l.initial.sink;
  written : HasWritten l.form l.question (map (λ w. w.now) l.words) (map (λ w. w.now) l.rest) (g.K.Sink.written l.initial.sink) (g.K.Sink.written l.sink) l.has_begun l.has_fault;
}

abbrev pub decreases-loop-rest : goal.decreases-loop-rest
decreases-loop-rest g l = length l.rest
