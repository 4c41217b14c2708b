use Rattle.fixed_convert.proofs.RoundedLemmas
use Rattle.fixed_convert.proofs.laws.reformatted_is_the_one.Goals as goal

pub returns : goal.returns
returns c = RoundedLemmas.reformatted_is_the_one
