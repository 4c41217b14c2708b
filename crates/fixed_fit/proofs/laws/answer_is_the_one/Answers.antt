use Rattle.fixed_fit.proofs.UniqueLemmas.{answer_is_the_one}
use Rattle.fixed_fit.proofs.laws.answer_is_the_one.Goals as goal

pub returns : goal.returns
returns c = answer_is_the_one
