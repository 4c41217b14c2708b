use Rattle.fixed_fit.proofs.FittingLemmas.{finest_is_the_one}
use Rattle.fixed_fit.proofs.laws.finest_is_the_one.Goals as goal

pub returns : goal.returns
returns c = finest_is_the_one
