use Rattle.fixed_bits.proofs.LawLemmas.{unsigned_saturates}
use Rattle.fixed_bits.proofs.laws.unsigned_is_saturated.Goals as goal

pub returns : goal.returns
returns c = unsigned_saturates
