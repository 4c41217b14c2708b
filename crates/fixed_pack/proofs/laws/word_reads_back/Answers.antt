use Rattle.fixed_pack.proofs.WordLemmas.{word_back}
use Rattle.fixed_pack.proofs.laws.word_reads_back.Goals as goal

pub returns : goal.returns
returns c = word_back
