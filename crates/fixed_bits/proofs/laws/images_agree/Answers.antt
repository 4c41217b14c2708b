use Rattle.fixed_bits.proofs.LawLemmas.{images_agree}
use Rattle.fixed_bits.proofs.laws.images_agree.Goals as goal

pub returns : goal.returns
returns c = images_agree
