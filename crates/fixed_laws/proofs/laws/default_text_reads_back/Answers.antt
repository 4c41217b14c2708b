use Rattle.fixed_laws.proofs.TextLemmas.{default_reads_back}
use Rattle.fixed_laws.proofs.laws.default_text_reads_back.Goals as goal

pub returns : goal.returns
returns c = default_reads_back
