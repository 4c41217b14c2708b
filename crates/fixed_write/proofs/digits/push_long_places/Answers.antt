use Rattle.std.proofs.Common.{arith, rules}
use Rattle.fixed_write.proofs.SixteenLemmas.{fits_high, pushed_length, pushed_twice}
use Rattle.fixed_write.proofs.digits.push_long_places.Goals as goal

pub push_sixteen-requires : goal.push_sixteen-requires
push_sixteen-requires g c =
    (search rules, (omega arith, (fits_high 16 c.args.places c.args.number c.requires.long c.requires.number, omega (arith, c.requires.room))))

pub push_sixteen-requires-2 : goal.push_sixteen-requires-2
push_sixteen-requires-2 g c =
    (search rules, (omega arith, (omega arith, omega (arith, c.requires.room, pushed_length _ _ _ _ c.push_sixteen.ensures))))

pub returns : goal.returns
returns g c = pushed_twice 16 c.args.places c.args.number _ _ _ c.requires.long c.push_sixteen.ensures c.push_sixteen-2.ensures
