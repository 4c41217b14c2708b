use Rattle.fixed_command.proofs.NameLawLemmas.{names_one}
use Rattle.fixed_command.proofs.laws.names_are_the_ones.Goals as goal

pub returns : goal.returns
returns c = names_one
