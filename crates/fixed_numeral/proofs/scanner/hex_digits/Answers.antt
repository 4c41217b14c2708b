use Rattle.std.proofs.Common.{sym, ltb-true}
use Rattle.fixed_numeral.proofs.ScanLemmas.{run_more}
use Rattle.fixed_numeral.proofs.scanner.hex_digits.Goals as goal

pub loop-at-preserved : goal.loop-at-preserved
loop-at-preserved c = run_more 16 c.args.bytes.now c.args.from c.loop-at.at c.loop-at.invariant c.loop-at-test.true (ltb-true _ _ (sym c.if-is_digit.ensures))
