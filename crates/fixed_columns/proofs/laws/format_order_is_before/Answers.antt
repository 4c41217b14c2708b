use Rattle.fixed_columns.proofs.OrderLawLemmas.{is_before}
use Rattle.fixed_columns.proofs.laws.format_order_is_before.Goals as goal

pub returns : goal.returns
returns c = is_before
