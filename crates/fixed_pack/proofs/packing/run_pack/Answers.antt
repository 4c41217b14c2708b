use Rattle.std.proofs.Common.{◌≡◌, ◌∙◌, List, ℕ, [], ap, arith, subst, sym}
use Rattle.std.proofs.lemmas.Grind.{common_steps}
use Rattle.run_engine.specs.Machines.{How}
use Rattle.run_engine.specs.Run.{HasRun}
use Rattle.run_engine.specs.Seen.{Seen, moment, seen_of}
use Rattle.run_engine.specs.declared.pieces.Cut.{Cut}
use Rattle.fixed_command.specs.Limits.{limit_of}
use Rattle.fixed_pack.specs.Packed.{MakesPacked}
use Rattle.fixed_pack.specs.declared.packer.Packer.{Packer}
use Rattle.fixed_pack.proofs.PackLemmas.{nothing_packed}
use Rattle.fixed_pack.proofs.RecodeLemmas.{run_as}
use Rattle.fixed_pack.proofs.packing.run_pack.Goals as goal

pub run-end-requires-clause-fresh : goal.run-end-requires-clause-fresh
run-end-requires-clause-fresh g c = nothing_packed (g.R.Pack.Packs c.new.result.rule) c.new.result c.new.ensures.line c.new.ensures.lines

pub returns : goal.returns
returns g c =
    let end = c.run-end.new.out.io in
    let source : ◌≡◌ {A = g.row.S.Denot} c.source-1.given.0 end.source.now = grind (arith, common_steps, c.run-end.ensures.same.source, c.new-out.ensures.io) in
    let sink : ◌≡◌ {A = g.row.K.Denot} c.sink-1.given.0 end.sink.now = grind (arith, common_steps, c.run-end.ensures.same.sink, c.new-out.ensures.io) in
    let m = c.new-out.result.io.source.ghost_name in
    let n = c.new-out.result.io.sink.ghost_name in
    let seen : g.row.S.Denot → g.row.K.Denot → ℕ → ℕ → Seen = λ s k i j. seen_of (g.S.Source.left s) (g.S.Source.asked s) (g.S.Source.failures s) (g.K.Sink.written k) (g.K.Sink.failures k) i j in
    let a = seen c.new-out.result.io.source.now c.new-out.result.io.sink.now m n in
    let before : a ≡ seen c.args.source.now c.args.sink.now m n = grind (arith, common_steps, c.new-out.ensures.io) in
    let b = seen end.source.now end.sink.now end.source.ghost_name end.sink.ghost_name in
    let after : b ≡ seen c.source-1.given.0 c.sink-1.given.0 m n =
    ap (λ (s : g.row.S.Denot). seen s end.sink.now end.source.ghost_name end.sink.ghost_name) (sym source)
    ∙ ap (λ (k : g.row.K.Denot). seen c.source-1.given.0 k end.source.ghost_name end.sink.ghost_name) (sym sink)
    ∙ ap (λ i. seen c.source-1.given.0 c.sink-1.given.0 i end.sink.ghost_name) c.run-end.ensures.same.source
    ∙ ap (λ j. seen c.source-1.given.0 c.sink-1.given.0 m j) c.run-end.ensures.same.sink in
    let new = c.new.result in
    let Makes = λ (r : g.row.R.Denot) (bytes text : List ℕ) (spent : ℕ) (how : How g.row.R-Cause.Denot) (it : Cut (Packer g.row.R.Denot)). MakesPacked (g.R.Pack.Packs r) (g.R.Pack.Refuses r) r bytes text spent how it.0 in
    record {
      last = c.run-end.new.machine;
      held = c.run-end.new.out.text;
      source = m;
      sink = n;
      stop = c.run-end.result;
      end_is = c.with_line.ensures;
      run = subst (λ (r : g.row.R.Denot). HasRun (Makes r) c.run-end.new.machine (limit_of c.args.limit.now) (moment (seen c.args.source.now c.args.sink.now m n) [] c.args.steps.now) (moment (seen c.source-1.given.0 c.sink-1.given.0 m n) c.run-end.new.out.text c.run-end.new.steps) c.run-end.result) c.new.ensures.rule
          (run_as (Makes new.rule) c.run-end.new.machine (limit_of c.args.limit.now) a (seen c.args.source.now c.args.sink.now m n) b (seen c.source-1.given.0 c.sink-1.given.0 m n)
          c.new-out.result.text c.run-end.new.out.text c.args.steps.now c.run-end.new.steps c.run-end.result before after c.new-out.ensures.text (subst (λ limit. HasRun (Makes new.rule) c.run-end.new.machine limit (moment a c.new-out.result.text c.args.steps.now) (moment b c.run-end.new.out.text c.run-end.new.steps) c.run-end.result) c.bytes_within.ensures.value c.run-end.ensures));
    }
