use Rattle.fixed_columns.specs.Lemmas.SortedLemmas.{sorted_one}
use Rattle.fixed_columns.proofs.laws.sorted_is_the_one.Goals as goal

pub returns : goal.returns
returns c = sorted_one
