use Rattle.fixed_arrays.specs.Lemmas.LiteralLemmas.{literal_answer_one}
use Rattle.fixed_arrays.proofs.laws.literal_array_answer_is_the_one.Goals as goal

pub returns : goal.returns
returns c = literal_answer_one
