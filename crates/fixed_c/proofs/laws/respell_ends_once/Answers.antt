use Rattle.fixed_c.proofs.LawLemmas
use Rattle.fixed_c.proofs.laws.respell_ends_once.Goals as goal

pub returns : goal.returns
returns c = LawLemmas.respell_ends_once c.respelled_is_the_one.ensures c.refusal_has_none.ensures c.refusal_is_the_one.ensures
