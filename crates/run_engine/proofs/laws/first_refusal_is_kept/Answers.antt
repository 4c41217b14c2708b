use Rattle.run_engine.proofs.RefusedLemmas.{keeps}
use Rattle.run_engine.proofs.laws.first_refusal_is_kept.Goals as goal

pub returns : goal.returns
returns g c = keeps _ c.args._refusals.now
