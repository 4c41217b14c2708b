use Rattle.column_engine.proofs.AfterLemmas.{lines_are_the_ones}
use Rattle.column_engine.proofs.laws.lines_are_the_ones.Goals as goal

pub returns : goal.returns
returns c = lines_are_the_ones
