use Rattle.fixed_columns.proofs.OrderLawLemmas.{equal_same}
use Rattle.fixed_columns.proofs.laws.equal_is_same.Goals as goal

pub returns : goal.returns
returns c = equal_same
