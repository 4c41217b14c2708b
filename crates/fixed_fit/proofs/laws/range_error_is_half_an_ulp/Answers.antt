use Rattle.fixed_fit.proofs.RangeErrorLemmas.{range_error_is_half_an_ulp}
use Rattle.fixed_fit.proofs.laws.range_error_is_half_an_ulp.Goals as goal

pub returns : goal.returns
returns c = range_error_is_half_an_ulp
