use Rattle.fixed_show.proofs.PartLemmas.{part_fault_one, part_no_fault}
use Rattle.fixed_show.proofs.part_laws.part_fault_is_the_one.Goals as goal

pub returns-clause-one : goal.returns-clause-one
returns-clause-one c = part_fault_one

pub returns-clause-none : goal.returns-clause-none
returns-clause-none c = part_no_fault
