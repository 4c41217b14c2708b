use Rattle.std.proofs.Common.{rules, ◌≡◌, ◌∙◌, arith, ap, refl, sym}
use Rattle.std.proofs.lemmas.Grind.{common_steps}
use Rattle.line_engine.proofs.Public.{nothing_kept}
use Rattle.line_engine.specs.Lines.{kept_length}
use Rattle.line_engine.specs.Program.{Outside, outside}
use Rattle.run_engine.specs.Seen.{Moment, Seen, moment, seen_of}
use Rattle.run_engine.proofs.LineRunLemmas.{lines_none}
use Rattle.run_engine.proofs.line_run.run_watched.Goals as goal

pub run-end-requires-clause-fresh : goal.run-end-requires-clause-fresh
run-end-requires-clause-fresh g c = record {
  made = lines_none _ _ _ _ _ _;
  line = c.in-Ok.ensures ∙ sym (nothing_kept kept_length);
}

pub returns-in-Ok-clause-run : goal.returns-in-Ok-clause-run
returns-in-Ok-clause-run g c = λ some.
    let source : ◌≡◌ {A = g.row.S.Denot} c.source-1.given.0 c.run-end.new.out.io.source.now = grind (arith, common_steps, c.run-end.ensures.same.source, c.new-out.ensures.io) in
    let source_first : ◌≡◌ {A = g.row.S.Denot} c.new-out.result.io.source.now c.args.source.now = grind (arith, common_steps, c.new-out.ensures.io) in
    let sink : ◌≡◌ {A = g.row.K.Denot} c.sink-1.given.0 c.run-end.new.out.io.sink.now = grind (arith, common_steps, c.run-end.ensures.same.sink, c.new-out.ensures.io) in
    let sink_first : ◌≡◌ {A = g.row.K.Denot} c.new-out.result.io.sink.now c.args.sink.now = grind (arith, common_steps, c.new-out.ensures.io) in
    let at : g.row.S.Denot → g.row.K.Denot → Outside = λ s k. outside (g.S.Source.left s) (g.S.Source.asked s) (g.S.Source.failures s) (g.K.Sink.written k) (g.K.Sink.failures k) c.args.steps.now in
    let then : g.row.S.Denot → g.row.K.Denot → Outside = λ s k. outside (g.S.Source.left s) (g.S.Source.asked s) (g.S.Source.failures s) (g.K.Sink.written k) (g.K.Sink.failures k) c.run-end.new.steps in
    let seen : g.row.S.Denot → g.row.K.Denot → _ → _ → Seen = λ s k i j. seen_of (g.S.Source.left s) (g.S.Source.asked s) (g.S.Source.failures s) (g.K.Sink.written k) (g.K.Sink.failures k) i j in
    let io = c.new-out.result.io in
    let io' = c.run-end.new.out.io in
    let a : Moment = moment (seen io.source.now io.sink.now io.source.ghost_name io.sink.ghost_name) c.new-out.result.text c.args.steps.now in
    let b : Moment = moment (seen io'.source.now io'.sink.now io'.source.ghost_name io'.sink.ghost_name) c.run-end.new.out.text c.run-end.new.steps in
    record {
      first = _;
      then = c.run-end.new.machine;
      a = a;
      b = b;
      end = c.run-end.result;
      answers_by = refl;
      begins = refl;
      no_line = refl;
      no_fault = refl;
      is_before = ap (λ s. at s c.new-out.result.io.sink.now) source_first ∙ ap (λ k. at c.args.source.now k) sink_first;
      is_after = ap (λ s. then s c.run-end.new.out.io.sink.now) (sym source) ∙ ap (λ k. then c.source-1.given.0 k) (sym sink);
      ends = c.status_of.ensures;
      run = c.run-end.ensures;
      kept = search rules;
    }
