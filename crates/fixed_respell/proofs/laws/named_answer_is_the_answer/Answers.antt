use Rattle.fixed_respell.proofs.NamedLemmas.{named_answer}
use Rattle.fixed_respell.proofs.laws.named_answer_is_the_answer.Goals as goal

pub returns : goal.returns
returns c = named_answer
