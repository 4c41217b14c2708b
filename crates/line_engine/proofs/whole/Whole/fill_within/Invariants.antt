use Rattle.std.proofs.Common.{◌+◌, ◌-◌, ◌≡◌, ◌≤◌, length}
use Rattle.std.specs.Io.KnownBytes.{Consumes}
use Rattle.line_engine.proofs.AskedLemmas.{AskedSoFar}
use Rattle.line_engine.proofs.whole.Whole.fill_within.Given as goal

abbrev pub invariant-loop-taken : goal.invariant-loop-taken
invariant-loop-taken g l = record {
  same : g.S.Source.failures l.source ≡ g.S.Source.failures l.initial.source;
  consumed : Consumes (g.S.Source.left l.initial.source) (g.S.Source.left l.source) l.self;
  count : l.taken ≡ length l.self;
  bound : l.taken ≤ l.limit + 1;
  asked : AskedSoFar l.limit l.taken (g.S.Source.asked l.initial.source) (g.S.Source.asked l.source);
}

abbrev pub decreases-loop-taken : goal.decreases-loop-taken
decreases-loop-taken g l = l.limit + 1 - l.taken
