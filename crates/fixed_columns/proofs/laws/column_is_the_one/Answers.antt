use Rattle.fixed_columns.specs.Lemmas.ColumnsLemmas.{column_one}
use Rattle.fixed_columns.proofs.laws.column_is_the_one.Goals as goal

pub returns : goal.returns
returns c = column_one
