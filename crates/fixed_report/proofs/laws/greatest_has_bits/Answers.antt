use Rattle.fixed_report.proofs.ReportLemmas.{has_bits}
use Rattle.fixed_report.proofs.laws.greatest_has_bits.Goals as goal

pub returns : goal.returns
returns c = has_bits
