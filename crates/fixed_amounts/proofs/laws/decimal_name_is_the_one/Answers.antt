use Rattle.fixed_amounts.proofs.NameLemmas.{decimal_name_one}
use Rattle.fixed_amounts.proofs.laws.decimal_name_is_the_one.Goals as goal

pub returns : goal.returns
returns c = decimal_name_one
