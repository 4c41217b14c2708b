use Rattle.fixed_fit.proofs.WithinLemmas.{first_unserved_is_the_one}
use Rattle.fixed_fit.proofs.laws.first_unserved_is_the_one.Goals as goal

pub returns : goal.returns
returns c = first_unserved_is_the_one
