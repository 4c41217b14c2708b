use Rattle.fixed_fit.proofs.RangeLemmas.{range_serves_each}
use Rattle.fixed_fit.proofs.laws.range_serves_each.Goals as goal

pub returns : goal.returns
returns c = range_serves_each
