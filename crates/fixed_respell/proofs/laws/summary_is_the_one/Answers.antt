use Rattle.fixed_respell.proofs.SelfLawLemmas.{summary_one}
use Rattle.fixed_respell.proofs.laws.summary_is_the_one.Goals as goal

pub returns : goal.returns
returns c = summary_one
