use Rattle.fixed_bits.proofs.LawLemmas.{has_none}
use Rattle.fixed_bits.proofs.laws.checked_has_none.Goals as goal

pub returns : goal.returns
returns c = has_none
