use Rattle.fixed_constants.proofs.OwnAnswerLemmas.{one_answer}
use Rattle.fixed_constants.proofs.laws.entries_have_one_answer.Goals as goal

pub returns : goal.returns
returns c = one_answer
