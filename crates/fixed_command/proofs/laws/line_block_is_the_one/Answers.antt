use Rattle.fixed_command.specs.Lemmas.BlockLemmas.{line_block_one}
use Rattle.fixed_command.proofs.laws.line_block_is_the_one.Goals as goal

pub returns : goal.returns
returns c = line_block_one
