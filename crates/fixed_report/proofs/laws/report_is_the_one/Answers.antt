use Rattle.fixed_report.proofs.ReportLemmas.{report_one}
use Rattle.fixed_report.proofs.laws.report_is_the_one.Goals as goal

pub returns : goal.returns
returns c = report_one
