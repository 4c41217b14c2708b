use Rattle.fixed_c.proofs.RowLawLemmas
use Rattle.fixed_c.proofs.laws.word_ends_once.Goals as goal

pub returns : goal.returns
returns c = RowLawLemmas.word_once
