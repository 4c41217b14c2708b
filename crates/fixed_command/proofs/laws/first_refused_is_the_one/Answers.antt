use Rattle.fixed_command.proofs.RunLawLemmas.{first_refused_one}
use Rattle.fixed_command.proofs.laws.first_refused_is_the_one.Goals as goal

pub returns : goal.returns
returns c = first_refused_one
