use Rattle.fixed_least.specs.Lemmas.LeastLemmas.{least_one}
use Rattle.fixed_least.proofs.laws.least_is_the_one.Goals as goal

pub returns : goal.returns
returns c = least_one
