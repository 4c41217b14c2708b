use Rattle.fixed_respell.specs.Lemmas.ReachedLemmas.{reached_one}
use Rattle.fixed_respell.proofs.laws.reached_is_the_one.Goals as goal

pub returns : goal.returns
returns c = reached_one
