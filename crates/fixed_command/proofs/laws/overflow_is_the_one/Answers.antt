use Rattle.fixed_command.proofs.ExplainLawLemmas.{overflow_one}
use Rattle.fixed_command.proofs.laws.overflow_is_the_one.Goals as goal

pub returns : goal.returns
returns c = overflow_one
