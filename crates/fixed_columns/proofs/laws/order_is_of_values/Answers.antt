use Rattle.fixed_columns.proofs.OrderLawLemmas.{of_values}
use Rattle.fixed_columns.proofs.laws.order_is_of_values.Goals as goal

pub returns : goal.returns
returns c = of_values
