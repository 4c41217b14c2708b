use Rattle.fixed_show.proofs.BlockLawLemmas.{bits_block_one}
use Rattle.fixed_show.proofs.laws.bits_block_is_the_one.Goals as goal

pub returns : goal.returns
returns c = bits_block_one
