use Rattle.std.proofs.Common.{◌≡◌, ◌∙◌, ℕ, ap, arith, inr, refl, subst, sym}
use Rattle.std.proofs.lemmas.Grind.{common_steps}
use Rattle.line_engine.specs.Program.{Outside, outside}
use Rattle.run_engine.specs.Run.{HasRun}
use Rattle.run_engine.specs.Seen.{Moment, Seen, moment, seen_of}
use Rattle.run_engine.proofs.Public.{run_of}
use Rattle.json_lines.specs.Run.{Answers, MakesBy, MakesLines, standing_of}
use Rattle.json_lines.specs.Told.{SeesLines}
use Rattle.json_lines.proofs.RunLemmas.{fresh}
use Rattle.json_lines.proofs.run.run_json.Goals as goal

pub run-end-requires-clause-fresh : goal.run-end-requires-clause-fresh
run-end-requires-clause-fresh g c =
    let first = c.new-in-Ok.result in
    fresh (g.A.FieldRule.Answers first.task.now.rule.now) (g.W.FieldWatch.Saw first.task.now.rule.now) first (c.new-in-Ok.ensures.line ∙ c.in-Ok.ensures) c.new-in-Ok.ensures.fault

pub returns-in-Ok : goal.returns-in-Ok
returns-in-Ok g c =
    let source : ◌≡◌ {A = g.row.S.Denot} c.source-1.given.0 c.run-end.new.out.io.source.now = grind (arith, common_steps, c.run-end.ensures.same.source, c.new-out.ensures.io) in
    let source_first : ◌≡◌ {A = g.row.S.Denot} c.new-out.result.io.source.now c.args.source.now = grind (arith, common_steps, c.new-out.ensures.io) in
    let sink : ◌≡◌ {A = g.row.K.Denot} c.sink-1.given.0 c.run-end.new.out.io.sink.now = grind (arith, common_steps, c.run-end.ensures.same.sink, c.new-out.ensures.io) in
    let sink_first : ◌≡◌ {A = g.row.K.Denot} c.new-out.result.io.sink.now c.args.sink.now = grind (arith, common_steps, c.new-out.ensures.io) in
    let at : g.row.S.Denot → g.row.K.Denot → Outside = λ s k. outside (g.S.Source.left s) (g.S.Source.asked s) (g.S.Source.failures s) (g.K.Sink.written k) (g.K.Sink.failures k) c.args.steps.now in
    let then : g.row.S.Denot → g.row.K.Denot → Outside = λ s k. outside (g.S.Source.left s) (g.S.Source.asked s) (g.S.Source.failures s) (g.K.Sink.written k) (g.K.Sink.failures k) c.run-end.new.steps in
    let seen : g.row.S.Denot → g.row.K.Denot → ℕ → ℕ → Seen = λ s k i j. seen_of (g.S.Source.left s) (g.S.Source.asked s) (g.S.Source.failures s) (g.K.Sink.written k) (g.K.Sink.failures k) i j in
    let io = c.new-out.result.io in
    let io' = c.run-end.new.out.io in
    let a : Moment = moment (seen io.source.now io.sink.now io.source.ghost_name io.sink.ghost_name) c.new-out.result.text c.args.steps.now in
    let b : Moment = moment (seen io'.source.now io'.sink.now io'.source.ghost_name io'.sink.ghost_name) c.run-end.new.out.text c.run-end.new.steps in
    let first = c.new-in-Ok.result in
    let task = c.args.task.now in
    let machine = c.run-end.new.machine in
    let A = g.A.FieldRule.Answers in
    let Saw = g.W.FieldWatch.Saw in
    inr (record {
      first = standing_of first;
      last = standing_of machine.0;
      counts = c.new-in-Ok.ensures.lines;
      begins = c.new-in-Ok.ensures.told;
      leaves = refl;
      a = a;
      b = b;
      end = c.run-end.result;
      is_before = ap (λ s. at s c.new-out.result.io.sink.now) source_first ∙ ap (λ k. at c.args.source.now k) sink_first;
      is_after = ap (λ s. then s c.run-end.new.out.io.sink.now) (sym source) ∙ ap (λ k. then c.source-1.given.0 k) (sym sink);
      ends = c.status_of.ensures;
      run = subst (λ limit. HasRun (λ bytes text spent how it. MakesLines (Answers (A task.rule.now) task) (SeesLines task (A task.rule.now) (Saw task.rule.now)) (standing_of first) bytes text how it) (standing_of machine.0) limit a b c.run-end.result) c.bytes_within.ensures.value
          (run_of (λ bytes text spent how it. MakesBy (A first.task.now.rule.now) (Saw first.task.now.rule.now) first bytes text spent how it.0)
          (λ bytes text spent how it. MakesLines (Answers (A task.rule.now) task) (SeesLines task (A task.rule.now) (Saw task.rule.now)) (standing_of first) bytes text how it) machine (standing_of machine.0)
          (λ used text spent how makes. subst (λ t. MakesLines (Answers (A t.rule.now) t) (SeesLines t (A t.rule.now) (Saw t.rule.now)) (standing_of first) used text how (standing_of machine.0)) c.new-in-Ok.ensures.task makes.1)
          c.bytes_within.result a b c.run-end.result c.run-end.ensures);
    })
