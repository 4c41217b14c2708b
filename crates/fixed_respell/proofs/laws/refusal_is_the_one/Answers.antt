use Rattle.fixed_respell.specs.Lemmas.ReachedLemmas.{refusal_one}
use Rattle.fixed_respell.proofs.laws.refusal_is_the_one.Goals as goal

pub returns : goal.returns
returns c = refusal_one
