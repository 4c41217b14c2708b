use Rattle.std.proofs.Common.{◌+◌, ◌-◌}
use Rattle.line_engine.proofs.Public.{AskedSoFar}
use Rattle.run_engine.specs.Inner.Progress.{HasCome}
use Rattle.run_engine.specs.Seen.{moment}
use Rattle.run_engine.proofs.engine.run.Given as goal

abbrev pub invariant-loop-taken : goal.invariant-loop-taken
invariant-loop-taken g l = record {
  come : HasCome (g.M.Machine.Makes l.initial.machine) l.limit l.taken l.machine
      (moment (g.I.Streams.seen l.initial.out.io) l.initial.out.text l.initial.steps) (moment (g.I.Streams.seen l.out.io) l.out.text l.steps);
  asked : AskedSoFar l.limit l.taken (g.I.Streams.seen l.initial.out.io).asked (g.I.Streams.seen l.out.io).asked;
}

abbrev pub decreases-loop-taken : goal.decreases-loop-taken
decreases-loop-taken g l = l.limit + 1 - l.taken
