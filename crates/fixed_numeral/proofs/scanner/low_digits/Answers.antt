use Rattle.std.proofs.Common.{arith}
use Rattle.fixed_numeral.proofs.ScanLemmas.{run_more, low_digit}
use Rattle.fixed_numeral.proofs.scanner.low_digits.Goals as goal

pub loop-at-preserved : goal.loop-at-preserved
loop-at-preserved c =
    run_more c.args.base c.args.bytes.now c.args.from c.loop-at.at c.loop-at.invariant c.loop-at-test.true (low_digit _ c.args.base (omega arith) c.requires.base c.if-bytes-at.true)
