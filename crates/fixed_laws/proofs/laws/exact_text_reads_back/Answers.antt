use Rattle.fixed_laws.proofs.TextLemmas.{exact_reads_back}
use Rattle.fixed_laws.proofs.laws.exact_text_reads_back.Goals as goal

pub returns : goal.returns
returns c = exact_reads_back
