use Rattle.fixed_c.proofs.LawLemmas
use Rattle.fixed_c.proofs.laws.enclose_ends_once.Goals as goal

pub returns : goal.returns
returns c = LawLemmas.enclose_ends_once c.pair_is_the_one.ensures
