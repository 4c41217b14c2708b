use Rattle.fixed_words.specs.Lemmas.WordLaws.{worded_one}
use Rattle.fixed_words.proofs.laws.worded_is_the_one.Goals as goal

pub returns : goal.returns
returns c = worded_one
