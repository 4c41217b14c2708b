use Rattle.fixed_read.proofs.DecimalLemmas.{under_half, over_half}
use Rattle.fixed_read.proofs.decimal.lost_fraction_if_certain.Goals as goal

pub returns-then-most-half : goal.returns-then-most-half
returns-then-most-half c ds below trailing some = under_half ds c.args.found.rest c.args.found.bits 7450580596923828125 c.power_of_two.result c.power_of_two.ensures below trailing some c.if-most-half.true

pub returns-then-most-le-FIVE_TO_27 : goal.returns-then-most-le-FIVE_TO_27
returns-then-most-le-FIVE_TO_27 c ds below trailing some = over_half ds c.args.found.rest c.args.found.bits 7450580596923828125 c.power_of_two.result c.power_of_two.ensures below c.if-half-found.true c.if-most-le-FIVE_TO_27.true
