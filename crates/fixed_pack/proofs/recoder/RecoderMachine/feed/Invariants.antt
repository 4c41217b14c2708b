use Rattle.std.proofs.Common.{◌≡◌, ◌++◌, List, ℕ, length}
use Rattle.run_engine.specs.Machines.{Goes, going}
use Rattle.run_engine.specs.Seen.{moment}
use Rattle.fixed_pack.specs.Recoded.{MakesWords}
use Rattle.fixed_pack.proofs.recoder.RecoderMachine.feed.Given as goal

abbrev pub invariant-loop-rest : goal.invariant-loop-rest
invariant-loop-rest g l = record {
  prefix : List ℕ;
  split : l.chunk ≡ prefix ++ l.rest;
  goes : (rule : g.row.R.Denot) (watch : g.row.W.Denot) (bytes made : List ℕ) (spent : ℕ)
      → MakesWords (g.R.Recode.size rule) (g.R.Recode.Recodes rule) (g.R.Recode.Refuses rule) g.W.WordWatch.Saw rule watch bytes made spent going l.initial.self
      → Goes (MakesWords (g.R.Recode.size rule) (g.R.Recode.Recodes rule) (g.R.Recode.Refuses rule) g.W.WordWatch.Saw rule watch) bytes made spent prefix going l.self
      (moment (g.I.Streams.seen l.initial.out.io) l.initial.out.text l.initial.steps) (moment (g.I.Streams.seen l.out.io) l.out.text l.steps);
}

abbrev pub decreases-loop-rest : goal.decreases-loop-rest
decreases-loop-rest g l = length l.rest
