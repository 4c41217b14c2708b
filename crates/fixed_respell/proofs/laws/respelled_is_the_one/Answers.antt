use Rattle.fixed_respell.specs.Lemmas.ReachedLemmas.{respelled_one}
use Rattle.fixed_respell.proofs.laws.respelled_is_the_one.Goals as goal

pub returns : goal.returns
returns c = respelled_one
