use Rattle.fixed_io.proofs.LawLemmas.{report_one}
use Rattle.fixed_io.proofs.laws.report_is_the_one.Goals as goal

pub returns : goal.returns
returns c = report_one
