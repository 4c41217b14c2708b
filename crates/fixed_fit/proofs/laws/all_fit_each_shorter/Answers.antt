use Rattle.fixed_fit.proofs.FittingLemmas.{all_fit_each_shorter}
use Rattle.fixed_fit.proofs.laws.all_fit_each_shorter.Goals as goal

pub returns : goal.returns
returns c = all_fit_each_shorter
