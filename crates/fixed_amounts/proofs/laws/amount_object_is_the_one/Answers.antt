use Rattle.fixed_amounts.proofs.FactLemmas.{amount_object_one}
use Rattle.fixed_amounts.proofs.laws.amount_object_is_the_one.Goals as goal

pub returns : goal.returns
returns c = amount_object_one
