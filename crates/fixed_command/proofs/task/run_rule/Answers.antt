use Rattle.fixed_command.proofs.RejectLemmas.{lines_run_as}
use Rattle.fixed_command.proofs.task.run_rule.Goals as goal

pub returns-clause-saw : goal.returns-clause-saw
returns-clause-saw g c = λ some. lines_run_as _ _ _ _ (λ both. both.watch) (λ watch number line result then saw. saw.0) _ _ _ _ _ _ _ _ _ (c.run_observed-end.ensures.saw some)

pub returns-clause-rejects : goal.returns-clause-rejects
returns-clause-rejects g c = λ some.
    let told = lines_run_as _ _ _ _ (λ both. both.rejects) (λ watch number line result then saw. saw.1) _ _ _ _ _ _ _ _ _ (c.run_observed-end.ensures.saw some) in
    rw c.replace.ensures.value at told
