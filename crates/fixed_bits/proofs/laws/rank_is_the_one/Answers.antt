use Rattle.fixed_bits.proofs.OrderLemmas.{rank_is_one}
use Rattle.fixed_bits.proofs.laws.rank_is_the_one.Goals as goal

pub returns : goal.returns
returns c = rank_is_one
