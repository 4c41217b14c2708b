use Rattle.fixed_bits.proofs.LawLemmas.{image_one}
use Rattle.fixed_bits.proofs.laws.image_is_the_one.Goals as goal

pub returns : goal.returns
returns c = image_one
