use Rattle.fixed_columns.proofs.BackLemmas.{answer_back}
use Rattle.fixed_columns.proofs.laws.answer_reads_back.Goals as goal

pub returns : goal.returns
returns c = answer_back c.column_reads_back.ensures
