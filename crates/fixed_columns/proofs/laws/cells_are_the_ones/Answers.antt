use Rattle.line_engine.specs.Lines.{lines}
use Rattle.fixed_columns.specs.Lemmas.RowLemmas.{spell_one}
use Rattle.fixed_columns.proofs.laws.cells_are_the_ones.Goals as goal

pub returns : goal.returns
returns c text a b x y = spell_one (lines text) a b x y
