use Rattle.fixed_enclose.specs.Lemmas.EnclosureLemmas.{pair_one}
use Rattle.fixed_enclose.proofs.laws.pair_is_the_one.Goals as goal

pub returns : goal.returns
returns c = pair_one
