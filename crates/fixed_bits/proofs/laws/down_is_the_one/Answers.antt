use Rattle.fixed_bits.proofs.LawLemmas.{down_one}
use Rattle.fixed_bits.proofs.laws.down_is_the_one.Goals as goal

pub returns : goal.returns
returns c = down_one
