use Rattle.fixed_bits.proofs.LawLemmas.{rounded_alike}
use Rattle.fixed_bits.proofs.laws.equal_fractions_round_alike.Goals as goal

pub returns : goal.returns
returns c = rounded_alike
