use Rattle.std.proofs.Common.{arith}
use Rattle.fixed_numeral.proofs.SegmentLemmas.{mantissa_parted, sixteen_fits}
use Rattle.fixed_numeral.proofs.decimal.mantissa_at.Goals as goal

pub returns-then-point-bytes-clause-whole : goal.returns-then-point-bytes-clause-whole
returns-then-point-bytes-clause-whole c = sixteen_fits c.args.bytes.now c.args.from c.decimals_at-whole.result.end c.decimals_at-whole.result.number c.decimals_at-whole.ensures.run (omega (arith, c.decimals_at-whole.ensures.end, c.min.ensures))

pub returns-clause-mantissa : goal.returns-clause-mantissa
returns-clause-mantissa c =
    let bytes = c.args.bytes.now in
    let point = c.decimals_at-whole.result.end in
    mantissa_parted 10 bytes c.args.from point c.in_ok-fraction.fraction.end c.decimals_at-whole.result.number c.in_ok-fraction.fraction.number _ c.decimals_at-whole.ensures.run (omega (arith, c.if-point-bytes.false)) c.if-bytes-point-ne46.false c.in_ok-fraction.ensures.run (omega (arith, c.in_ok-fraction.ensures.run.count)) (omega (arith, c.decimals_at-whole.ensures.run.count, c.in_ok-fraction.ensures.run.count, c.if-fraction-from.false))

pub returns-clause-whole : goal.returns-clause-whole
returns-clause-whole c = sixteen_fits c.args.bytes.now c.args.from c.decimals_at-whole.result.end c.decimals_at-whole.result.number c.decimals_at-whole.ensures.run (omega (arith, c.decimals_at-whole.ensures.end, c.min.ensures))
