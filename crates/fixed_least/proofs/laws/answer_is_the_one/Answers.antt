use Rattle.fixed_least.specs.Lemmas.LeastLemmas.{answer_one}
use Rattle.fixed_least.proofs.laws.answer_is_the_one.Goals as goal

pub returns : goal.returns
returns c = answer_one
