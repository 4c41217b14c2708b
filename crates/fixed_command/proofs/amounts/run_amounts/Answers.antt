use Rattle.fixed_command.proofs.amounts.run_amounts.Goals as goal

pub returns-clause-run : goal.returns-clause-run
returns-clause-run g c = λ some.
    let run = c.run_rule.ensures.saw some in
    record { first = c.new-refusals.result; no_refusal = c.new-refusals.ensures.count; none = c.new-refusals.ensures.first; run = run }
