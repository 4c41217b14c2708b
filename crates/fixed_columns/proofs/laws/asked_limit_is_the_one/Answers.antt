use Rattle.fixed_columns.proofs.CommandLemmas.{limit_one}
use Rattle.fixed_columns.proofs.laws.asked_limit_is_the_one.Goals as goal

pub returns : goal.returns
returns c = limit_one
