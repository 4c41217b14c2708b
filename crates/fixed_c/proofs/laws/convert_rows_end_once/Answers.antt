use Rattle.fixed_c.proofs.RowLawLemmas
use Rattle.fixed_c.proofs.laws.convert_rows_end_once.Goals as goal

pub returns : goal.returns
returns c = RowLawLemmas.convert_rows_once
