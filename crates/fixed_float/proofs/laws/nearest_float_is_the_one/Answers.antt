use Rattle.fixed_float.proofs.UniqueLemmas.{nearest_float_is_the_one}
use Rattle.fixed_float.proofs.laws.nearest_float_is_the_one.Goals as goal

pub returns : goal.returns
returns c = nearest_float_is_the_one
