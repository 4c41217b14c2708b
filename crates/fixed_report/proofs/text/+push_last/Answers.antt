use Rattle.std.proofs.Common.{◌-◌, ◌/◌, arith, rules}
use Rattle.fixed_report.proofs.TextLemmas.{digits_length, digits_more, digits_none}
use Rattle.fixed_report.proofs.text.+push_last.Goals as goal

pub push-requires : goal.push-requires
push-requires t c =
    let e = digits_length c.args.out.now c.push_last.new.out (c.args.number / 10) (c.args.count - 1) c.push_last.ensures in
    (search rules, omega (arith, e, c.requires, c.if-count-gt0.true))

pub returns-then-count-gt0 : goal.returns-then-count-gt0
returns-then-count-gt0 t c = digits_more c.args.out.now c.push_last.new.out c.push.new.self c.args.number c.args.count _ c.if-count-gt0.true (search rules) c.push_last.ensures c.push.ensures

pub returns-else-count-gt0 : goal.returns-else-count-gt0
returns-else-count-gt0 t c = digits_none c.args.out.now c.args.number c.args.count (omega (arith, c.if-count-gt0.false))
