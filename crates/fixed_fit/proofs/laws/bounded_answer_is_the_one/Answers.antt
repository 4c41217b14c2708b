use Rattle.fixed_fit.proofs.BoundedUniqueLemmas.{bounded_answer_is_the_one}
use Rattle.fixed_fit.proofs.laws.bounded_answer_is_the_one.Goals as goal

pub returns : goal.returns
returns c = bounded_answer_is_the_one
