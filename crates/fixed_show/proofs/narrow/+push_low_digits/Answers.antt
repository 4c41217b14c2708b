use Rattle.std.proofs.Common.{◌-◌, ◌/◌, arith, rules}
use Rattle.fixed_show.proofs.DecimalLemmas.{places_length, places_none}
use Rattle.fixed_show.proofs.NarrowLemmas.{digits_more}
use Rattle.fixed_show.proofs.narrow.+push_low_digits.Goals as goal

pub push-requires : goal.push-requires
push-requires g t c =
    let e = places_length c.args.out.now c.push_low_digits.new.out (c.args.number / 10) (c.args.count - 1) c.push_low_digits.ensures in
    (search rules, omega (arith, e, c.requires.room, c.if-count-gt0.true))

pub returns-then-count-gt0 : goal.returns-then-count-gt0
returns-then-count-gt0 g t c = digits_more c.args.out.now c.push_low_digits.new.out c.push.new.self c.args.number c.args.count _ c.if-count-gt0.true (search rules) c.push_low_digits.ensures c.push.ensures

pub returns-else-count-gt0 : goal.returns-else-count-gt0
returns-else-count-gt0 g t c = places_none c.args.out.now c.args.number c.args.count (omega (arith, c.if-count-gt0.false))
