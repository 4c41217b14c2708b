use Rattle.fixed_show.proofs.BlockLawLemmas.{bits_object_one}
use Rattle.fixed_show.proofs.laws.bits_object_is_the_one.Goals as goal

pub returns : goal.returns
returns c = bits_object_one
