use Rattle.fixed_show.proofs.PartLemmas.{part_one}
use Rattle.fixed_show.proofs.part_laws.part_is_the_one.Goals as goal

pub returns : goal.returns
returns c = part_one
