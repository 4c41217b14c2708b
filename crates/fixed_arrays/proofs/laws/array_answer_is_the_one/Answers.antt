use Rattle.fixed_arrays.specs.Lemmas.AnswerLemmas.{array_answer_one}
use Rattle.fixed_arrays.proofs.laws.array_answer_is_the_one.Goals as goal

pub returns : goal.returns
returns c = array_answer_one
