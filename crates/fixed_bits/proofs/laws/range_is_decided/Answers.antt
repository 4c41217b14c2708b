use Rattle.fixed_bits.proofs.LawLemmas.{range_decided}
use Rattle.fixed_bits.proofs.laws.range_is_decided.Goals as goal

pub returns : goal.returns
returns c = range_decided
