use Rattle.std.proofs.Common.{◌+◌, ◌≤◌, length, take, drop, arith}
use Rattle.fixed_numeral.proofs.LaneLemmas.{eight_below, eight_long}
use Rattle.fixed_numeral.proofs.ScanLemmas.{run_on}
use Rattle.fixed_numeral.proofs.scanner.decimal_digits.Goals as goal

pub loop-at-preserved : goal.loop-at-preserved
loop-at-preserved c =
    let room : c.loop-at.at + 8 ≤ length c.args.bytes.now = omega (arith, c.loop-at-test.true, c.loop-at.invariant.within) in
    let below = eight_below c.args.bytes.now c.loop-at.at room (λ k. let small = c.type_inv.bytes k in omega (arith, small)) in
    run_on 10 c.args.bytes.now c.args.from c.loop-at.at 8 c.loop-at.invariant room (c.are_decimal.ensures (take 8 (drop c.loop-at.at c.args.bytes.now)) (eight_long c.args.bytes.now c.loop-at.at room) below c.word_at.ensures c.if-are_decimal.true)

pub returns-clause-digits : goal.returns-clause-digits
returns-clause-digits c = (run_on 10 c.args.bytes.now c.args.from c.loop-at.at c.low_digits-at.result c.loop-at.invariant c.low_digits-at.ensures.within c.low_digits-at.ensures.digits).digits
