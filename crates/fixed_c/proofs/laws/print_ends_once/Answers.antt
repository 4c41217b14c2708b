use Rattle.fixed_c.proofs.LawLemmas
use Rattle.fixed_c.proofs.laws.print_ends_once.Goals as goal

pub returns : goal.returns
returns c = LawLemmas.print_ends_once
