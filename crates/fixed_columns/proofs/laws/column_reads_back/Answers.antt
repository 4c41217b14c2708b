use Rattle.fixed_columns.proofs.BackLemmas.{column_back}
use Rattle.fixed_columns.proofs.laws.column_reads_back.Goals as goal

pub returns : goal.returns
returns c = column_back c.default_text_reads_back.ensures c.line_comes_first.ensures
