use Rattle.std.proofs.Common.{◌≡◌, ◌∙◌, ◌<◌, ℕ, [], ap, arith, refl, subst, sym}
use Rattle.std.proofs.lemmas.Grind.{common_steps}
use Rattle.run_engine.specs.Run.{HasRun}
use Rattle.run_engine.specs.Seen.{Seen, moment, seen_of}
use Rattle.fixed_command.specs.Limits.{limit_of}
use Rattle.fixed_pack.specs.Part.{part_of}
use Rattle.fixed_pack.specs.Recoded.{MakesWords}
use Rattle.fixed_pack.proofs.RecodeLemmas.{nothing_recoded, run_as}
use Rattle.fixed_pack.proofs.recoding.run_recode.Goals as goal

pub run-end-requires-clause-fresh : goal.run-end-requires-clause-fresh
run-end-requires-clause-fresh g c =
    let new = c.new-recoder.result in
    nothing_recoded (g.R.Recode.size new.rule) (g.R.Recode.Recodes new.rule) g.W.WordWatch.Saw new
    (subst (λ (r : g.row.R.Denot). 0 < g.R.Recode.size r) (sym c.new-recoder.ensures.rule) c.new-recoder.ensures.some)
    (subst (λ (r : g.row.R.Denot). new.part ≡ part_of [] (g.R.Recode.size r)) (sym c.new-recoder.ensures.rule) c.new-recoder.ensures.part)
    c.new-recoder.ensures.words c.new-recoder.ensures.none

pub returns : goal.returns
returns g c =
    let new = c.new-recoder.result in
    let end = c.run-end.new.out.io in
    let source : ◌≡◌ {A = g.row.S.Denot} c.source-1.given.0 end.source.now = grind (arith, common_steps, c.run-end.ensures.same.source, c.new-out.ensures.io) in
    let sink : ◌≡◌ {A = g.row.K.Denot} c.sink-1.given.0 end.sink.now = grind (arith, common_steps, c.run-end.ensures.same.sink, c.new-out.ensures.io) in
    let m = c.new-out.result.io.source.ghost_name in
    let n = c.new-out.result.io.sink.ghost_name in
    let seen : g.row.S.Denot → g.row.K.Denot → ℕ → ℕ → Seen = λ s k i j. seen_of (g.S.Source.left s) (g.S.Source.asked s) (g.S.Source.failures s) (g.K.Sink.written k) (g.K.Sink.failures k) i j in
    let a = seen c.new-out.result.io.source.now c.new-out.result.io.sink.now m n in
    let before : a ≡ seen c.args.source.now c.args.sink.now m n = grind (arith, common_steps, c.new-out.ensures.io) in
    let b = seen end.source.now end.sink.now end.source.ghost_name end.sink.ghost_name in
    let after : b ≡ seen c.source-1.given.0 c.sink-1.given.0 m n =
    ap (λ (s : g.row.S.Denot). seen s end.sink.now end.source.ghost_name end.sink.ghost_name) (sym source)
    ∙ ap (λ (k : g.row.K.Denot). seen c.source-1.given.0 k end.source.ghost_name end.sink.ghost_name) (sym sink)
    ∙ ap (λ i. seen c.source-1.given.0 c.sink-1.given.0 i end.sink.ghost_name) c.run-end.ensures.same.source
    ∙ ap (λ j. seen c.source-1.given.0 c.sink-1.given.0 m j) c.run-end.ensures.same.sink in
    record {
      last = c.run-end.new.machine;
      held = c.run-end.new.out.text;
      source = m;
      sink = n;
      run = subst (λ (r : g.row.R.Denot). HasRun (MakesWords (g.R.Recode.size r) (g.R.Recode.Recodes r) (g.R.Recode.Refuses r) g.W.WordWatch.Saw r c.args.watch) c.run-end.new.machine (limit_of c.args.limit.now)
          (moment (seen c.args.source.now c.args.sink.now m n) [] c.args.steps.now)
          (moment (seen c.source-1.given.0 c.sink-1.given.0 m n) c.run-end.new.out.text c.run-end.new.steps) c.run-end.result) c.new-recoder.ensures.rule
          (subst (λ (w : g.row.W.Denot). HasRun (MakesWords (g.R.Recode.size new.rule) (g.R.Recode.Recodes new.rule) (g.R.Recode.Refuses new.rule) g.W.WordWatch.Saw new.rule w) c.run-end.new.machine (limit_of c.args.limit.now)
          (moment (seen c.args.source.now c.args.sink.now m n) [] c.args.steps.now)
          (moment (seen c.source-1.given.0 c.sink-1.given.0 m n) c.run-end.new.out.text c.run-end.new.steps) c.run-end.result) c.new-recoder.ensures.watch
          (run_as (MakesWords (g.R.Recode.size new.rule) (g.R.Recode.Recodes new.rule) (g.R.Recode.Refuses new.rule) g.W.WordWatch.Saw new.rule new.watch) c.run-end.new.machine (limit_of c.args.limit.now)
          a (seen c.args.source.now c.args.sink.now m n) b (seen c.source-1.given.0 c.sink-1.given.0 m n)
          c.new-out.result.text c.run-end.new.out.text c.args.steps.now c.run-end.new.steps c.run-end.result before after c.new-out.ensures.text (subst (λ limit. HasRun (MakesWords (g.R.Recode.size new.rule) (g.R.Recode.Recodes new.rule) (g.R.Recode.Refuses new.rule) g.W.WordWatch.Saw new.rule new.watch) c.run-end.new.machine limit (moment a c.new-out.result.text c.args.steps.now) (moment b c.run-end.new.out.text c.run-end.new.steps) c.run-end.result) c.bytes_within.ensures.value c.run-end.ensures)));
      over = c.len.ensures;
      watched = refl;
    }
