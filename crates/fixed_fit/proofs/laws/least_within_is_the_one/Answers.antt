use Rattle.fixed_fit.proofs.WithinLemmas.{least_within_is_the_one}
use Rattle.fixed_fit.proofs.laws.least_within_is_the_one.Goals as goal

pub returns : goal.returns
returns c = least_within_is_the_one
