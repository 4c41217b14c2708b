use Rattle.fixed_constants.specs.Lemmas.FormLemmas.{form_answer_one}
use Rattle.fixed_constants.proofs.laws.form_answer_is_the_one.Goals as goal

pub returns : goal.returns
returns c = form_answer_one
