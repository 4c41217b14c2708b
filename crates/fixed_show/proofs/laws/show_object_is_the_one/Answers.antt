use Rattle.fixed_show.proofs.BlockLawLemmas.{show_object_one}
use Rattle.fixed_show.proofs.laws.show_object_is_the_one.Goals as goal

pub returns : goal.returns
returns c = show_object_one
