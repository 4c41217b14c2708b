use Rattle.fixed_bits.proofs.LawLemmas.{policy_range_decided}
use Rattle.fixed_bits.proofs.laws.policy_range_is_decided.Goals as goal

pub returns : goal.returns
returns c = policy_range_decided
