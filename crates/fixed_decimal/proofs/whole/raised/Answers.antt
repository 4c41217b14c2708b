use Rattle.fixed_decimal.proofs.UnitsLemmas.{raised_room}
use Rattle.fixed_decimal.proofs.whole.raised.Goals as goal

pub returns-clause-room : goal.returns-clause-room
returns-clause-room c = rw (c.from.ensures, c.from-2.ensures, c.power_of_ten.ensures, c.from-3.ensures) (raised_room c.args.number c.args.places c.args.more c.ranges.number.fits c.requires c.ranges.more.fits)
