use Rattle.fixed_error.proofs.GrowthLemmas.{error_never_grows}
use Rattle.fixed_error.proofs.laws.error_never_grows.Goals as goal

pub returns : goal.returns
returns c = error_never_grows
