use Rattle.fixed_respell.specs.Lemmas.AnswerLemmas.{answer_one}
use Rattle.fixed_respell.proofs.laws.answer_is_the_one.Goals as goal

pub returns : goal.returns
returns c = answer_one
