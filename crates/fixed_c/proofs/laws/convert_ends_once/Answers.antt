use Rattle.fixed_c.proofs.LawLemmas
use Rattle.fixed_c.proofs.laws.convert_ends_once.Goals as goal

pub returns : goal.returns
returns c = LawLemmas.convert_ends_once
