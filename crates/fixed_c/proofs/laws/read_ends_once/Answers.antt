use Rattle.fixed_c.proofs.LawLemmas
use Rattle.fixed_c.proofs.laws.read_ends_once.Goals as goal

pub returns : goal.returns
returns c = LawLemmas.read_ends_once
