use Rattle.fixed_laws.proofs.PaddingLemmas.{padding_is}
use Rattle.fixed_laws.proofs.laws.padding_is_the_toolchains.Goals as goal

pub returns : goal.returns
returns c = padding_is
