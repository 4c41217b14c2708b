use Rattle.fixed_c.proofs.LawLemmas
use Rattle.fixed_c.proofs.laws.answer_ends_once.Goals as goal

pub returns : goal.returns
returns c = LawLemmas.answer_ends_once c.answer_is_the_one.ensures
