use Rattle.fixed_bits.proofs.LawLemmas.{keeps_order}
use Rattle.fixed_bits.proofs.laws.down_keeps_order.Goals as goal

pub returns : goal.returns
returns c = keeps_order
