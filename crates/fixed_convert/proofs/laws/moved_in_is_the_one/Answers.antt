use Rattle.fixed_convert.proofs.RoundedLemmas
use Rattle.fixed_convert.proofs.laws.moved_in_is_the_one.Goals as goal

pub returns : goal.returns
returns c = RoundedLemmas.moved_in_is_the_one
