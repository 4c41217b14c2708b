use Rattle.fixed_laws.proofs.PlainLemmas.{plain_reads_back}
use Rattle.fixed_laws.proofs.laws.plain_text_reads_back.Goals as goal

pub returns : goal.returns
returns c = plain_reads_back
