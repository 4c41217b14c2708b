use Rattle.fixed_pack.proofs.AmountLemmas.{packed_amounts_unpack}
use Rattle.fixed_pack.proofs.laws.packed_amounts_unpack.Goals as goal

pub returns : goal.returns
returns c = packed_amounts_unpack
