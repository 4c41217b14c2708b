use Rattle.fixed_pack.proofs.UnpackLawLemmas.{packed_unpacks}
use Rattle.fixed_pack.proofs.laws.packed_unpacks.Goals as goal

pub returns : goal.returns
returns c = packed_unpacks
