use Rattle.fixed_bits.proofs.OrderLemmas.{rank_order}
use Rattle.fixed_bits.proofs.laws.rank_is_order.Goals as goal

pub returns : goal.returns
returns c = rank_order
