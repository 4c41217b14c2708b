use Rattle.fixed_convert.proofs.RoundedLemmas
use Rattle.fixed_convert.proofs.laws.floor_is_down.Goals as goal

pub returns : goal.returns
returns c = RoundedLemmas.floor_is_down
