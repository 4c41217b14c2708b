use Rattle.fixed_decimal.proofs.UnitsLemmas.{lost_digits}
use Rattle.fixed_decimal.proofs.units.lost_by_digits.Goals as goal

pub returns-in-Some-clause-lost : goal.returns-in-Some-clause-lost
returns-in-Some-clause-lost g c = lost_digits c.args.rest.now c.in-Some.others c.in-Some.first c.is_empty.result c.lost_by_digit.result c.in-Some.ensures.0 c.requires.digits c.requires.trailing c.is_empty.ensures c.lost_by_digit.ensures
