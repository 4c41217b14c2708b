use Rattle.std.proofs.Common.{refl}
use Rattle.fixed_write.proofs.SixteenLemmas.{counted}
use Rattle.fixed_write.proofs.digits.digit_count.Goals as goal

pub returns-clause-some : goal.returns-clause-some
returns-clause-some c = (counted c.args.number _ _ c.power_of_ten.result c.requires.some c.requires.sixteen refl c.power_of_ten.ensures refl).some

pub returns-clause-sixteen : goal.returns-clause-sixteen
returns-clause-sixteen c = (counted c.args.number _ _ c.power_of_ten.result c.requires.some c.requires.sixteen refl c.power_of_ten.ensures refl).most

pub returns-clause-low : goal.returns-clause-low
returns-clause-low c = (counted c.args.number _ _ c.power_of_ten.result c.requires.some c.requires.sixteen refl c.power_of_ten.ensures refl).low

pub returns-clause-high : goal.returns-clause-high
returns-clause-high c = (counted c.args.number _ _ c.power_of_ten.result c.requires.some c.requires.sixteen refl c.power_of_ten.ensures refl).high
