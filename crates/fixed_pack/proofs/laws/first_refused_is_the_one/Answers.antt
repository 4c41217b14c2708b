use Rattle.fixed_pack.proofs.LawLemmas.{first_refused_one}
use Rattle.fixed_pack.proofs.laws.first_refused_is_the_one.Goals as goal

pub returns : goal.returns
returns c = first_refused_one
