use Rattle.fixed_decimal.proofs.UnitsLemmas.{ten_pos, ten_word}
use Rattle.fixed_decimal.proofs.units.power.Goals as goal

pub returns-clause-least : goal.returns-clause-least
returns-clause-least c = rw c.power_of_ten.ensures (ten_pos c.args.places)

pub returns-clause-most : goal.returns-clause-most
returns-clause-most c = rw c.power_of_ten.ensures (ten_word c.args.places c.requires)
