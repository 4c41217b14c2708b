use Rattle.fixed_pack.proofs.UnpackLawLemmas.{unpacked_bits_pack}
use Rattle.fixed_pack.proofs.laws.unpacked_bits_pack.Goals as goal

pub returns : goal.returns
returns c = unpacked_bits_pack
