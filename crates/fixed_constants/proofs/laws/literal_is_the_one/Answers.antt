use Rattle.fixed_constants.specs.Lemmas.ConstantsLemmas.{bits_one}
use Rattle.fixed_constants.proofs.laws.literal_is_the_one.Goals as goal

pub returns : goal.returns
returns c = bits_one
