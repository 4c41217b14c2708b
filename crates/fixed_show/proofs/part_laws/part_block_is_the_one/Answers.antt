use Rattle.fixed_show.proofs.PartLemmas.{part_block_one}
use Rattle.fixed_show.proofs.part_laws.part_block_is_the_one.Goals as goal

pub returns : goal.returns
returns c = part_block_one
