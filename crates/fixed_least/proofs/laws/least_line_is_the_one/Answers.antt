use Rattle.fixed_least.specs.Lemmas.LeastLemmas.{fault_one, line_one}
use Rattle.fixed_least.proofs.laws.least_line_is_the_one.Goals as goal

pub returns : goal.returns
returns c = record { fault = fault_one; line = line_one }
