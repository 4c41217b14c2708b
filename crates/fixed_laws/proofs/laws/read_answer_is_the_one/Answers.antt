use Rattle.fixed_laws.proofs.ReadingLemmas.{read_answer_one}
use Rattle.fixed_laws.proofs.laws.read_answer_is_the_one.Goals as goal

pub returns : goal.returns
returns c = read_answer_one
