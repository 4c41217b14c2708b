use Rattle.fixed_columns.specs.Lemmas.ColumnsLemmas.{answer_one}
use Rattle.fixed_columns.proofs.laws.answer_is_the_one.Goals as goal

pub returns : goal.returns
returns c = answer_one
