use Rattle.std.proofs.Common.{drop, arith}
use Rattle.fixed_read.proofs.DecimalLemmas.{far_below, block_order}
use Rattle.fixed_read.proofs.DigitLemmas.{longer_some}
use Rattle.fixed_read.proofs.decimal.order_to_mark.Goals as goal

pub returns-then-start-power_of_two-clause-order : goal.returns-then-start-power_of_two-clause-order
returns-then-start-power_of_two-clause-order g c = far_below c.args.view.now c.args.start c.args.bits c.requires.digits (omega (arith, c.if-start-power_of_two.true, c.power_of_two.ensures))

pub returns-clause-order : goal.returns-clause-order
returns-clause-order g c = block_order c.block_order.result c.args.view.now (drop c.args.bits c.args.view.now) c.prefix_number-block.result c.args.start c.mark_of.result c.args.bits c.is_longer.result c.requires.digits c.prefix_number-block.ensures.led c.mark_of.ensures (longer_some c.args.view.now c.args.bits c.is_longer.result c.is_longer.ensures) c.block_order.ensures
