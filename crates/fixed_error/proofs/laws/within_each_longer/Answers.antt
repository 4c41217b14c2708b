use Rattle.fixed_error.proofs.GrowthLemmas.{within_each_longer}
use Rattle.fixed_error.proofs.laws.within_each_longer.Goals as goal

pub returns : goal.returns
returns c = within_each_longer
