use Rattle.std.proofs.Common.{◌≡◌, ◌+◌, ◌∙◌, add-zero, ap, subst}
use Rattle.line_engine.specs.Program.{Outside, outside}
use Rattle.line_engine.specs.Run.{Spends}
use Rattle.run_engine.proofs.LinesRunLemmas.{lines_asked, lines_cost, lines_failures, lines_output, lines_prefix, lines_run, lines_too_long}
use Rattle.run_engine.proofs.line_run.run_lines.Goals as goal

pub returns-clause-run : goal.returns-clause-run
returns-clause-run g c =
    let at : g.row.S.Denot → g.row.K.Denot → _ → Outside = λ s k n. outside (g.S.Source.left s) (g.S.Source.asked s) (g.S.Source.failures s) (g.K.Sink.written k) (g.K.Sink.failures k) n in
    let r = c.args.rule.now in
    let e = c.run_watched.ensures in
    lines_run r (g.R.Rule.Answers r) _ _ _ _ c.args.limit (at c.args.source.now c.args.sink.now c.args.steps.now) (at c.run_watched.new.source c.run_watched.new.sink c.run_watched.new.steps)
    c.run_watched.result.status _ _ e.run (λ lacks. let m = e.memory lacks in ap (λ s. at s c.run_watched.new.sink c.run_watched.new.steps) m.0 ∙ ap (λ k. at c.args.source.now k c.run_watched.new.steps) m.1 ∙ ap (at c.args.source.now c.args.sink.now) m.2)

pub returns-clause-failures : goal.returns-clause-failures
returns-clause-failures g c =
    let at : g.row.S.Denot → g.row.K.Denot → _ → Outside = λ s k n. outside (g.S.Source.left s) (g.S.Source.asked s) (g.S.Source.failures s) (g.K.Sink.written k) (g.K.Sink.failures k) n in
    let r = c.args.rule.now in
    let e = c.run_watched.ensures in
    lines_failures r (g.R.Rule.Answers r) _ _ _ _ c.args.limit (at c.args.source.now c.args.sink.now c.args.steps.now) (at c.run_watched.new.source c.run_watched.new.sink c.run_watched.new.steps)
    c.run_watched.result.status _ _ e.run (λ lacks. let m = e.memory lacks in ap (λ s. at s c.run_watched.new.sink c.run_watched.new.steps) m.0 ∙ ap (λ k. at c.args.source.now k c.run_watched.new.steps) m.1 ∙ ap (at c.args.source.now c.args.sink.now) m.2)

pub returns-clause-output : goal.returns-clause-output
returns-clause-output g c =
    let at : g.row.S.Denot → g.row.K.Denot → _ → Outside = λ s k n. outside (g.S.Source.left s) (g.S.Source.asked s) (g.S.Source.failures s) (g.K.Sink.written k) (g.K.Sink.failures k) n in
    let r = c.args.rule.now in
    let e = c.run_watched.ensures in
    lines_output r (g.R.Rule.Answers r) _ _ _ _ c.args.limit (at c.args.source.now c.args.sink.now c.args.steps.now) (at c.run_watched.new.source c.run_watched.new.sink c.run_watched.new.steps)
    c.run_watched.result.status _ _ e.run (λ lacks. let m = e.memory lacks in ap (λ s. at s c.run_watched.new.sink c.run_watched.new.steps) m.0 ∙ ap (λ k. at c.args.source.now k c.run_watched.new.steps) m.1 ∙ ap (at c.args.source.now c.args.sink.now) m.2)

pub returns-clause-too_long : goal.returns-clause-too_long
returns-clause-too_long g c =
    let at : g.row.S.Denot → g.row.K.Denot → _ → Outside = λ s k n. outside (g.S.Source.left s) (g.S.Source.asked s) (g.S.Source.failures s) (g.K.Sink.written k) (g.K.Sink.failures k) n in
    let r = c.args.rule.now in
    let e = c.run_watched.ensures in
    lines_too_long r (g.R.Rule.Answers r) _ _ _ _ c.args.limit (at c.args.source.now c.args.sink.now c.args.steps.now) (at c.run_watched.new.source c.run_watched.new.sink c.run_watched.new.steps)
    c.run_watched.result.status _ _ e.run (λ lacks. let m = e.memory lacks in ap (λ s. at s c.run_watched.new.sink c.run_watched.new.steps) m.0 ∙ ap (λ k. at c.args.source.now k c.run_watched.new.steps) m.1 ∙ ap (at c.args.source.now c.args.sink.now) m.2)

pub returns-clause-prefix_on_write_fault : goal.returns-clause-prefix_on_write_fault
returns-clause-prefix_on_write_fault g c =
    let at : g.row.S.Denot → g.row.K.Denot → _ → Outside = λ s k n. outside (g.S.Source.left s) (g.S.Source.asked s) (g.S.Source.failures s) (g.K.Sink.written k) (g.K.Sink.failures k) n in
    let r = c.args.rule.now in
    let e = c.run_watched.ensures in
    lines_prefix r (g.R.Rule.Answers r) _ _ _ _ c.args.limit (at c.args.source.now c.args.sink.now c.args.steps.now) (at c.run_watched.new.source c.run_watched.new.sink c.run_watched.new.steps)
    c.run_watched.result.status _ _ e.run (λ lacks. let m = e.memory lacks in ap (λ s. at s c.run_watched.new.sink c.run_watched.new.steps) m.0 ∙ ap (λ k. at c.args.source.now k c.run_watched.new.steps) m.1 ∙ ap (at c.args.source.now c.args.sink.now) m.2) (g.met.R.Rule.one_law r)

pub returns-clause-cost : goal.returns-clause-cost
returns-clause-cost g c =
    let at : g.row.S.Denot → g.row.K.Denot → _ → Outside = λ s k n. outside (g.S.Source.left s) (g.S.Source.asked s) (g.S.Source.failures s) (g.K.Sink.written k) (g.K.Sink.failures k) n in
    let r = c.args.rule.now in
    let e = c.run_watched.ensures in
    let spends = lines_cost r (g.R.Rule.Answers r) _ _ _ _ c.args.limit (at c.args.source.now c.args.sink.now c.args.steps.now) (at c.run_watched.new.source c.run_watched.new.sink c.run_watched.new.steps)
    c.run_watched.result.status _ _ e.run (λ lacks. let m = e.memory lacks in ap (λ s. at s c.run_watched.new.sink c.run_watched.new.steps) m.0 ∙ ap (λ k. at c.args.source.now k c.run_watched.new.steps) m.1 ∙ ap (at c.args.source.now c.args.sink.now) m.2) in
    subst (λ n. Spends c.args.limit n g.R.Rule.EXTRA (g.S.Source.left c.args.source.now) (g.S.Source.left c.run_watched.new.source) c.args.steps.now c.run_watched.new.steps) (add-zero g.R.Rule.PER_BYTE)
    (subst (λ n. Spends c.args.limit (g.R.Rule.PER_BYTE + 0) n (g.S.Source.left c.args.source.now) (g.S.Source.left c.run_watched.new.source) c.args.steps.now c.run_watched.new.steps) (add-zero g.R.Rule.EXTRA) spends)

pub returns-clause-asked : goal.returns-clause-asked
returns-clause-asked g c =
    let at : g.row.S.Denot → g.row.K.Denot → _ → Outside = λ s k n. outside (g.S.Source.left s) (g.S.Source.asked s) (g.S.Source.failures s) (g.K.Sink.written k) (g.K.Sink.failures k) n in
    let r = c.args.rule.now in
    let e = c.run_watched.ensures in
    lines_asked r (g.R.Rule.Answers r) _ _ _ _ c.args.limit (at c.args.source.now c.args.sink.now c.args.steps.now) (at c.run_watched.new.source c.run_watched.new.sink c.run_watched.new.steps)
    c.run_watched.result.status _ _ e.run (λ lacks. let m = e.memory lacks in ap (λ s. at s c.run_watched.new.sink c.run_watched.new.steps) m.0 ∙ ap (λ k. at c.args.source.now k c.run_watched.new.steps) m.1 ∙ ap (at c.args.source.now c.args.sink.now) m.2)
