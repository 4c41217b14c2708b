use Rattle.std.proofs.Common.{refl}
use Rattle.fixed_command.proofs.task.run_reported.Goals as goal

pub returns-clause-reports : goal.returns-clause-reports
returns-clause-reports g c = λ some. record {
  first = c.new-report.result;
  last = c.run_rule-end.result.watch;
  fresh = record { count = c.new-report.ensures.count; none = c.new-report.ensures.first };
  no_numeral = c.new-report.ensures.tally;
  no_error = c.new-report.ensures.errors;
  no_sums = c.new-report.ensures.sums;
  run = c.run_rule-end.ensures.saw some;
  tells = record { count = c.reported.ensures.count; first = c.reported.ensures.first };
  tally = refl;
  errors = refl;
}

pub returns-clause-rejects : goal.returns-clause-rejects
returns-clause-rejects g c = λ some. c.run_rule-end.ensures.rejects some
