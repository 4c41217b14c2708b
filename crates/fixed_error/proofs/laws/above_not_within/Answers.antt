use Rattle.fixed_error.proofs.GrowthLemmas.{above_not_within}
use Rattle.fixed_error.proofs.laws.above_not_within.Goals as goal

pub returns : goal.returns
returns c = above_not_within
