use Rattle.fixed_respell.proofs.NamedLemmas.{named_answer_one}
use Rattle.fixed_respell.proofs.laws.named_answer_is_the_one.Goals as goal

pub returns : goal.returns
returns c = named_answer_one
