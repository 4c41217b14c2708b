use Rattle.std.proofs.Common.{arith}
use Rattle.fixed_fit.proofs.ShortLemmas.{less_room}
use Rattle.fixed_fit.proofs.short.room_of_both.Goals as goal

pub returns-clause-plain : goal.returns-clause-plain
returns-clause-plain c = less_room c.min.result c.room_left.result c.args.plain.now (omega (arith, c.min.ensures)) c.room_left.ensures

pub returns-clause-signed : goal.returns-clause-signed
returns-clause-signed c = less_room c.min.result c.room_left-2.result c.args.signed.now (omega (arith, c.min.ensures)) c.room_left-2.ensures
