use Rattle.line_engine.specs.Lines.{lines}
use Rattle.fixed_columns.specs.Lemmas.RowLemmas.{fail_one}
use Rattle.fixed_columns.proofs.laws.fault_is_the_one.Goals as goal

pub returns : goal.returns
returns c text p q f g x y = let same = fail_one 1 (lines text) p q f g x y in (same.line, same.fault)
