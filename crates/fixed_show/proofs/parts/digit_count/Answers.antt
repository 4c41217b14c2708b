use Rattle.std.proofs.Common.{◌∙◌, ap, arith, length, sym}
use Rattle.fixed_show.proofs.WordLemmas.{without_more_underscore}
use Rattle.fixed_show.proofs.PartLemmas.{one_digit_more}
use Rattle.fixed_show.proofs.parts.digit_count.Goals as goal
use Rattle.fixed_show.proofs.parts.digit_count.Goals.{then-byte-ne95, else-byte-ne95}

pub loop-byte-preserved : goal.loop-byte-preserved
loop-byte-preserved c =
    let bs = c.args.bytes.now in
    let i = c.loop-byte.byte-index in
    elim c.if-byte-ne95.branch [
      | then-byte-ne95 w ↦
          (let more = one_digit_more bs i c.loop-byte.count c.loop-byte-test.true w.if-byte-ne95.true c.loop-byte.invariant.0 in
          (w.count-is ∙ more, omega (arith, w.count-is, c.loop-byte.invariant.1)))
      | else-byte-ne95 w ↦
          (let same = ap length (without_more_underscore bs i c.loop-byte-test.true w.if-byte-ne95.false) in
          (w.count-is ∙ c.loop-byte.invariant.0 ∙ sym same, omega (arith, w.count-is, c.loop-byte.invariant.1)))
    ]
