use Rattle.fixed_fit.proofs.RangeLemmas.{ends_decide}
use Rattle.fixed_fit.proofs.laws.ends_decide.Goals as goal

pub returns : goal.returns
returns c = ends_decide
