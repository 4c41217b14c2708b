use Rattle.fixed_c.proofs.LawLemmas
use Rattle.fixed_c.proofs.laws.literal_ends_once.Goals as goal

pub returns : goal.returns
returns c = LawLemmas.literal_ends_once
