use Rattle.fixed_arrays.specs.Lemmas.LiteralLemmas.{fault_one}
use Rattle.fixed_arrays.proofs.laws.literals_fault_is_the_one.Goals as goal

pub returns : goal.returns
returns c = fault_one
