use Rattle.fixed_command.proofs.OutcomeLemmas.{outcome_one}
use Rattle.fixed_command.proofs.laws.outcome_is_the_one.Goals as goal

pub returns : goal.returns
returns c = outcome_one
