use Rattle.fixed_fit.proofs.BoundedUniqueLemmas.{width_reason_is_the_one}
use Rattle.fixed_fit.proofs.laws.width_reason_is_the_one.Goals as goal

pub returns : goal.returns
returns c = width_reason_is_the_one
