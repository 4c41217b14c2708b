use Rattle.fixed_respell.specs.Lemmas.ReachedLemmas.{refusal_none}
use Rattle.fixed_respell.proofs.laws.refusal_has_none.Goals as goal

pub returns : goal.returns
returns c = refusal_none
