use Rattle.fixed_numeral.proofs.NumeralLemmas.{beginning_prefix}
use Rattle.fixed_numeral.proofs.laws.prefix_is_beginning.Goals as goal

pub returns : goal.returns
returns c = beginning_prefix
