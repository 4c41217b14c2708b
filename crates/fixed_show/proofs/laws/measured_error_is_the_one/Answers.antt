use Rattle.fixed_show.proofs.BlockLawLemmas.{measured_error_one}
use Rattle.fixed_show.proofs.laws.measured_error_is_the_one.Goals as goal

pub returns : goal.returns
returns c = measured_error_one
