use Rattle.fixed_least.specs.Lemmas.LeastLemmas.{places_one}
use Rattle.fixed_least.proofs.laws.places_are_the_ones.Goals as goal

pub returns : goal.returns
returns c = places_one
