use Rattle.fixed_bits.proofs.LawLemmas.{rounded_one}
use Rattle.fixed_bits.proofs.laws.rounded_is_the_one.Goals as goal

pub returns : goal.returns
returns c = rounded_one
