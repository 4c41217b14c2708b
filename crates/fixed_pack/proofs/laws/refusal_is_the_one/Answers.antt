use Rattle.fixed_pack.proofs.LawLemmas.{refusal_one}
use Rattle.fixed_pack.proofs.laws.refusal_is_the_one.Goals as goal

pub returns : goal.returns
returns c = refusal_one
