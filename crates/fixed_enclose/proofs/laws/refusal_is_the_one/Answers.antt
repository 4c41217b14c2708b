use Rattle.fixed_enclose.specs.Lemmas.EnclosureLemmas.{refusal_one}
use Rattle.fixed_enclose.proofs.laws.refusal_is_the_one.Goals as goal

pub returns : goal.returns
returns c = refusal_one
