use Rattle.fixed_show.proofs.WordLawLemmas.{fault_one, no_fault}
use Rattle.fixed_show.proofs.laws.word_fault_is_the_one.Goals as goal

pub returns-clause-one : goal.returns-clause-one
returns-clause-one c = fault_one

pub returns-clause-none : goal.returns-clause-none
returns-clause-none c = no_fault
