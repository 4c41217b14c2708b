use Rattle.std.proofs.Common.{◌≡◌, ◌+◌, ◌∙◌, ℕ, ap, subst}
use Rattle.line_engine.specs.Program.{Outside, outside}
use Rattle.line_engine.specs.declared.status.Status.TheVariants.{NoMemory}
use Rattle.run_engine.proofs.Public.{lines_asked, lines_cost, lines_failures, lines_output, lines_prefix, lines_run, lines_too_long}
use Rattle.fixed_command.specs.Runs.{HasLineRun}
use Rattle.fixed_command.proofs.task.run_observed.Goals as goal

pub returns-clause-run : goal.returns-clause-run
returns-clause-run g c =
    let at : g.row.S.Denot → g.row.K.Denot → ℕ → Outside = λ s k n. outside (g.S.Source.left s) (g.S.Source.asked s) (g.S.Source.failures s) (g.K.Sink.written k) (g.K.Sink.failures k) n in
    let r = c.args.rule.now in
    let A = g.R.Rule.Answers r in
    let e = c.run_watched.ensures in
    let limit = c.bytes_within.result in
    let before : Outside = at c.args.source.now c.args.sink.now c.args.steps.now in
    let after : Outside = at c.run_watched.new.source c.run_watched.new.sink c.run_watched.new.steps in
    let status = c.run_watched.result.status in
    let none : status ≡ NoMemory → after ≡ before = λ lacks. let m = e.memory lacks in ap (λ s. at s c.run_watched.new.sink c.run_watched.new.steps) m.0 ∙ ap (λ k. at c.args.source.now k c.run_watched.new.steps) m.1 ∙ ap (at c.args.source.now c.args.sink.now) m.2 in
    subst (λ n. HasLineRun A n (g.R.Rule.PER_BYTE + g.W.Watch.PER_BYTE) (g.R.Rule.EXTRA + g.W.Watch.EXTRA) before after status) c.bytes_within.ensures.value (record {
      output = λ input is within calm. lines_output r A _ _ _ _ limit before after status _ _ e.run none input is within calm.0 calm.1;
      too_long = λ input is past calm. lines_too_long r A _ _ _ _ limit before after status _ _ e.run none input is past calm.0 calm.1;
      run = lines_run r A _ _ _ _ limit before after status _ _ e.run none;
      prefix_on_write_fault = lines_prefix r A _ _ _ _ limit before after status _ _ e.run none (g.met.R.Rule.one_law r);
      cost = lines_cost r A _ _ _ _ limit before after status _ _ e.run none;
      asked = lines_asked r A _ _ _ _ limit before after status _ _ e.run none;
      failures = lines_failures r A _ _ _ _ limit before after status _ _ e.run none;
    })
