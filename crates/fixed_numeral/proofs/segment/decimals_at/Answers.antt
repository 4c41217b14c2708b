use Rattle.std.proofs.Common.{arith}
use Rattle.fixed_numeral.proofs.SegmentLemmas.{run_none, run_more, run_room}
use Rattle.fixed_numeral.proofs.segment.decimals_at.Goals as goal

pub loop-at-init : goal.loop-at-init
loop-at-init c = (run_none 10 c.args.bytes.now c.args.from (omega (arith, c.requires.place, c.requires.within)), c.requires.place)

pub overflow_mul-number : goal.overflow_mul-number
overflow_mul-number c = omega (arith, (run_room c.args.bytes.now c.args.from c.loop-at.at c.loop-at.number c.decimal_digit-digit.result c.loop-at.invariant.0 (omega (arith, c.loop-at-test.true, c.requires.few)) (omega (arith, c.if-digit-ge10.false))).0)

pub overflow_add-number : goal.overflow_add-number
overflow_add-number c = omega (arith, (run_room c.args.bytes.now c.args.from c.loop-at.at c.loop-at.number c.decimal_digit-digit.result c.loop-at.invariant.0 (omega (arith, c.loop-at-test.true, c.requires.few)) (omega (arith, c.if-digit-ge10.false))).1)

pub loop-at-preserved : goal.loop-at-preserved
loop-at-preserved c = (run_more 10 c.args.bytes.now c.args.from c.loop-at.at c.loop-at.number c.decimal_digit-digit.result c.loop-at.invariant.0 (omega (arith, c.loop-at-test.true, c.requires.within)) (c.decimal_digit-digit.ensures (omega (arith, c.if-digit-ge10.false))) (omega (arith, c.if-digit-ge10.false)), omega (arith, c.loop-at-test.true))
