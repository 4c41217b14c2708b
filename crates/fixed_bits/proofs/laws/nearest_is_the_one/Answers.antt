use Rattle.fixed_bits.proofs.LawLemmas.{nearest_one}
use Rattle.fixed_bits.proofs.laws.nearest_is_the_one.Goals as goal

pub returns : goal.returns
returns c = nearest_one
