use Rattle.fixed_pack.proofs.LawLemmas.{words_one}
use Rattle.fixed_pack.proofs.laws.words_are_the_ones.Goals as goal

pub returns : goal.returns
returns c = words_one
