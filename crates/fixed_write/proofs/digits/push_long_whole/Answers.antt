use Rattle.std.proofs.Common.{arith, rules, ap, ◌∙◌, length, length-append}
use Rattle.fixed_write.proofs.SixteenLemmas.{whole_parts_length, whole_pushed}
use Rattle.fixed_write.proofs.digits.push_long_whole.Goals as goal

pub push_short_whole-requires : goal.push_short_whole-requires
push_short_whole-requires g c =
    (search rules, (omega arith, (omega arith, omega (arith, c.requires.room, whole_parts_length 16 c.args.number c.requires.long))))

pub push_sixteen-requires : goal.push_sixteen-requires
push_sixteen-requires g c =
    (search rules, (omega arith, (omega arith, omega (arith, c.requires.room, whole_parts_length 16 c.args.number c.requires.long, ap length c.push_short_whole.ensures ∙ length-append c.args.out.now _))))

pub returns : goal.returns
returns g c = whole_pushed 16 c.args.number _ _ _ c.requires.long c.push_short_whole.ensures c.push_sixteen.ensures
