use Rattle.fixed_pack.proofs.LawLemmas.{packed_one}
use Rattle.fixed_pack.proofs.laws.packed_is_the_one.Goals as goal

pub returns : goal.returns
returns c = packed_one
