use Rattle.fixed_c.proofs.RowLawLemmas
use Rattle.fixed_c.proofs.laws.format_ends_once.Goals as goal

pub returns : goal.returns
returns c = RowLawLemmas.format_once
