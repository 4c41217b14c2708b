use Rattle.fixed_c.proofs.RowLawLemmas
use Rattle.fixed_c.proofs.laws.read_rows_end_once.Goals as goal

pub returns : goal.returns
returns c = RowLawLemmas.read_rows_once
