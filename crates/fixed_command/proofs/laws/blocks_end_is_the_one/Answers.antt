use Rattle.fixed_command.proofs.RunLawLemmas.{blocks_end_one}
use Rattle.fixed_command.proofs.laws.blocks_end_is_the_one.Goals as goal

pub returns : goal.returns
returns c = blocks_end_one
