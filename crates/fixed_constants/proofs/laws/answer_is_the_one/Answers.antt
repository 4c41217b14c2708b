use Rattle.fixed_constants.specs.Lemmas.ConstantsLemmas.{answer_one}
use Rattle.fixed_constants.proofs.laws.answer_is_the_one.Goals as goal

pub returns : goal.returns
returns c = answer_one
