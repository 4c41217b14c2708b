use Rattle.fixed_least.proofs.ProgramLemmas.{radix_named}
use Rattle.fixed_least.proofs.laws.named_radix_is_the_one.Goals as goal

pub returns : goal.returns
returns c = radix_named
