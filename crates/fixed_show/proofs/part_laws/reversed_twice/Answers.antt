use Rattle.fixed_show.proofs.PartLemmas.{twice}
use Rattle.fixed_show.proofs.part_laws.reversed_twice.Goals as goal

pub returns : goal.returns
returns c = twice
