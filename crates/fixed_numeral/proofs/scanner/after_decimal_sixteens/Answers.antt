use Rattle.std.proofs.Common.{◌+◌, ◌≤◌, length, arith}
use Rattle.fixed_numeral.proofs.ScanLemmas.{run_on}
use Rattle.fixed_numeral.proofs.scanner.after_decimal_sixteens.Goals as goal

pub loop-at-preserved : goal.loop-at-preserved
loop-at-preserved c =
    let room : c.loop-at.at + 16 ≤ length c.args.bytes.now = omega (arith, c.loop-at-test.true, c.loop-at.invariant.within) in
    run_on 10 c.args.bytes.now c.args.from c.loop-at.at 16 c.loop-at.invariant room (c.are_sixteen_decimal.ensures c.if-are_sixteen_decimal.true)
