use Rattle.fixed_decimal.proofs.OrderLemmas
use Rattle.fixed_decimal.proofs.laws.read_decimal_keeps_order.Goals as goal

pub returns : goal.returns
returns c = OrderLemmas.read_decimal_keeps_order
