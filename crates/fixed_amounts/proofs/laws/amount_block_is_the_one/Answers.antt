use Rattle.fixed_amounts.proofs.FactLemmas.{amount_block_one}
use Rattle.fixed_amounts.proofs.laws.amount_block_is_the_one.Goals as goal

pub returns : goal.returns
returns c = amount_block_one
