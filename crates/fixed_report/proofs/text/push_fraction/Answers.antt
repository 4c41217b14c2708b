use Rattle.std.proofs.Common.{arith}
use Rattle.fixed_report.proofs.TextLemmas.{fraction_more, fraction_none}
use Rattle.fixed_report.proofs.text.push_fraction.Goals as goal

pub returns-then-count-gt0 : goal.returns-then-count-gt0
returns-then-count-gt0 c = fraction_more c.args.out.now c.push.new.self c.push_last.new.out c.args.number c.args.count c.if-count-gt0.true c.push.ensures c.push_last.ensures

pub returns-else-count-gt0 : goal.returns-else-count-gt0
returns-else-count-gt0 c = fraction_none c.args.out.now c.args.number c.args.count (omega (arith, c.if-count-gt0.false))
