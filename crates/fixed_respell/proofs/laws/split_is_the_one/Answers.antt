use Rattle.fixed_respell.proofs.SelfLawLemmas.{split_one}
use Rattle.fixed_respell.proofs.laws.split_is_the_one.Goals as goal

pub returns : goal.returns
returns c = split_one
