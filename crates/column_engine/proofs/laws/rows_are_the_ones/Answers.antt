use Rattle.column_engine.proofs.UniqueLemmas.{rows_are_the_ones}
use Rattle.column_engine.proofs.laws.rows_are_the_ones.Goals as goal

pub returns : goal.returns
returns c = rows_are_the_ones
