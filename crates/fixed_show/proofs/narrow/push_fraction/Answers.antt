use Rattle.std.proofs.Common.{arith}
use Rattle.fixed_show.proofs.DecimalLemmas.{fraction_more, fraction_none}
use Rattle.fixed_show.proofs.narrow.push_fraction.Goals as goal

pub returns-then-count-gt0 : goal.returns-then-count-gt0
returns-then-count-gt0 g c = fraction_more c.args.out.now c.push.new.self c.push_digits.new.out c.args.number c.args.count c.if-count-gt0.true c.push.ensures c.push_digits.ensures

pub returns-else-count-gt0 : goal.returns-else-count-gt0
returns-else-count-gt0 g c = fraction_none c.args.out.now c.args.number c.args.count (omega (arith, c.if-count-gt0.false))
