use Rattle.fixed_command.proofs.task.run_convert.Goals as goal

pub returns-clause-reports : goal.returns-clause-reports
returns-clause-reports g c = λ some. record {
  first = c.new.result;
  last = c.run_rule-end.result.watch;
  fresh = record { count = c.new.ensures.count; none = c.new.ensures.first };
  run = rw c.of.ensures.status (c.run_rule-end.ensures.saw (rw c.of.ensures.status at some));
  tells = record { count = rw c.of.ensures.refusals c.reported.ensures.count; first = rw c.of.ensures.refusals c.reported.ensures.first };
}

pub returns-clause-rejects : goal.returns-clause-rejects
returns-clause-rejects g c = λ some. rw c.of.ensures.status (c.run_rule-end.ensures.rejects (rw c.of.ensures.status at some))
