use Rattle.fixed_c.proofs.LawLemmas
use Rattle.fixed_c.proofs.laws.compare_ends_once.Goals as goal

pub returns : goal.returns
returns c = LawLemmas.compare_ends_once
