use Rattle.fixed_show.proofs.WordLawLemmas.{word_one}
use Rattle.fixed_show.proofs.laws.word_is_the_one.Goals as goal

pub returns : goal.returns
returns c = word_one
