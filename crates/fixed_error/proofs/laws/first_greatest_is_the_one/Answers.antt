use Rattle.fixed_error.proofs.UniqueLemmas.{first_greatest_is_the_one}
use Rattle.fixed_error.proofs.laws.first_greatest_is_the_one.Goals as goal

pub returns : goal.returns
returns c = first_greatest_is_the_one
