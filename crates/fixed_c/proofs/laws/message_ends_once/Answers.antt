use Rattle.fixed_c.proofs.LawLemmas
use Rattle.fixed_c.proofs.laws.message_ends_once.Goals as goal

pub returns : goal.returns
returns c = LawLemmas.message_ends_once
