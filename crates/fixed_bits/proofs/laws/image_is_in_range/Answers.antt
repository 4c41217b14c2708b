use Rattle.fixed_bits.proofs.LawLemmas.{image_within}
use Rattle.fixed_bits.proofs.laws.image_is_in_range.Goals as goal

pub returns : goal.returns
returns c = image_within
