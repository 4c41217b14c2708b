use Rattle.fixed_least.specs.Lemmas.LeastLemmas.{no_lesser}
use Rattle.fixed_least.proofs.laws.longer_has_no_lesser.Goals as goal

pub returns : goal.returns
returns c = no_lesser
