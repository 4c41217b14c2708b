use Rattle.fixed_respell.specs.Lemmas.ReachedLemmas.{overflowed_none}
use Rattle.fixed_respell.proofs.laws.overflowed_has_none.Goals as goal

pub returns : goal.returns
returns c = overflowed_none
