use Rattle.fixed_c.proofs.RowLawLemmas
use Rattle.fixed_c.proofs.laws.puts_once.Goals as goal

pub returns : goal.returns
returns c = RowLawLemmas.puts_once
