use Rattle.fixed_show.proofs.DecimalErrorLemmas.{decimal_error_one}
use Rattle.fixed_show.proofs.laws.decimal_error_is_the_one.Goals as goal

pub returns : goal.returns
returns c = decimal_error_one
