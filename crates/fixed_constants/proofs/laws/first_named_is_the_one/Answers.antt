use Rattle.fixed_constants.proofs.NamedLawLemmas.{first_named_one}
use Rattle.fixed_constants.proofs.laws.first_named_is_the_one.Goals as goal

pub returns : goal.returns
returns c = first_named_one
