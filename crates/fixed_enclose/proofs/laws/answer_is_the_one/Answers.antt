use Rattle.fixed_enclose.specs.Lemmas.AnswerLemmas.{answer_one}
use Rattle.fixed_enclose.proofs.laws.answer_is_the_one.Goals as goal

pub returns : goal.returns
returns c = answer_one
