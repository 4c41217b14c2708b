use Rattle.fixed_constants.proofs.OwnAnswerLemmas.{own_answer}
use Rattle.fixed_constants.proofs.laws.answer_is_its_own.Goals as goal

pub returns : goal.returns
returns c = own_answer c.written_reads_back.ensures
