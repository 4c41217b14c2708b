use Rattle.std.proofs.Common.{arith}
use Rattle.fixed_pack.proofs.WordLemmas.{high_pushed, none_pushed_high}
use Rattle.fixed_pack.proofs.word.+push_high.Goals as goal

pub returns-then-count-gt0-clause-appended : goal.returns-then-count-gt0-clause-appended
returns-then-count-gt0-clause-appended g t c = high_pushed c.args.out.now c.push_high.new.out c.push.new.self c.args.count c.args.number c.if-count-gt0.true c.push_high.ensures.appended c.push.ensures

pub returns-else-count-gt0-clause-appended : goal.returns-else-count-gt0-clause-appended
returns-else-count-gt0-clause-appended g t c = none_pushed_high c.args.out.now c.args.count c.args.number (omega (arith, c.if-count-gt0.false))
