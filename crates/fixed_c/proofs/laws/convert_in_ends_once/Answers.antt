use Rattle.fixed_c.proofs.LawLemmas
use Rattle.fixed_c.proofs.laws.convert_in_ends_once.Goals as goal

pub returns : goal.returns
returns c = LawLemmas.convert_in_ends_once c.moved_in_is_the_one.ensures
