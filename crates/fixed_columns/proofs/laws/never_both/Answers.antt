use Rattle.line_engine.specs.Lines.{lines}
use Rattle.fixed_columns.specs.Lemmas.RowLemmas.{not_both}
use Rattle.fixed_columns.proofs.laws.never_both.Goals as goal

pub returns : goal.returns
returns c text cells p f x y = not_both 1 (lines text) cells p f x y
