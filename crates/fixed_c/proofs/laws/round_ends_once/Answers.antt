use Rattle.fixed_c.proofs.LawLemmas
use Rattle.fixed_c.proofs.laws.round_ends_once.Goals as goal

pub returns : goal.returns
returns c = LawLemmas.round_ends_once
