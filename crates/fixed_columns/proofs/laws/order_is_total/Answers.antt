use Rattle.fixed_columns.specs.Lemmas.OrderLemmas.{cell_total}
use Rattle.fixed_columns.proofs.laws.order_is_total.Goals as goal

pub returns : goal.returns
returns c = cell_total
