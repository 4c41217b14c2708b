use Rattle.fixed_c.proofs.RowLawLemmas
use Rattle.fixed_c.proofs.laws.print_rows_end_once.Goals as goal

pub returns : goal.returns
returns c = RowLawLemmas.print_rows_once
