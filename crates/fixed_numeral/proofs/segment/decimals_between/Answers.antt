use Rattle.std.proofs.Common.{ℕ, ◌-◌, ◌^◌, ◌<◌, arith}
use Rattle.fixed_numeral.specs.Inner.Segments.{IsDigitRun}
use Rattle.fixed_numeral.proofs.SegmentLemmas.{run_of_first, run_of_last, run_of_both, low_below, high_fits}
use Rattle.fixed_numeral.proofs.segment.decimals_between.Goals as goal

pub returns-then-count-le8 : goal.returns-then-count-le8
returns-then-count-le8 c = run_of_last c.args.bytes.now c.args.from (c.args.to - c.args.from) c.args.to c.in_ok-number.number c.word_at-last.result c.requires.long c.requires.within (λ k. omega (arith, c.type_inv.bytes k)) c.if-count-le8.true (omega (arith, c.requires.place)) c.word_at-last.ensures c.in_ok-number.ensures

pub overflow_mul-result : goal.overflow_mul-result
overflow_mul-result c =
    let mid : ℕ = c.args.to - 8 in
    let high : IsDigitRun 10 c.args.bytes.now c.args.from mid c.in_ok-high.high = run_of_first c.args.bytes.now c.args.from (c.args.to - c.args.from - 8) mid c.in_ok-high.high c.word_at.result (omega (arith, c.if-count-le8.false, c.requires.within)) (λ k. omega (arith, c.type_inv.bytes k)) (omega (arith, c.requires.few)) (omega (arith, c.if-count-le8.false)) c.word_at.ensures c.in_ok-high.ensures in
    omega (arith, high_fits c.args.bytes.now c.args.from mid c.in_ok-high.high 0 high (omega (arith, c.requires.few)) (omega arith))

pub overflow_add-result : goal.overflow_add-result
overflow_add-result c =
    let mid : ℕ = c.args.to - 8 in
    let high : IsDigitRun 10 c.args.bytes.now c.args.from mid c.in_ok-high.high = run_of_first c.args.bytes.now c.args.from (c.args.to - c.args.from - 8) mid c.in_ok-high.high c.word_at.result (omega (arith, c.if-count-le8.false, c.requires.within)) (λ k. omega (arith, c.type_inv.bytes k)) (omega (arith, c.requires.few)) (omega (arith, c.if-count-le8.false)) c.word_at.ensures c.in_ok-high.ensures in
    let low : IsDigitRun 10 c.args.bytes.now mid c.args.to c.in_ok-low.low = run_of_last c.args.bytes.now mid 8 c.args.to c.in_ok-low.low c.word_at-last.result c.requires.long c.requires.within (λ k. omega (arith, c.type_inv.bytes k)) (omega arith) (omega (arith, c.requires.long)) c.word_at-last.ensures c.in_ok-low.ensures in
    let under : c.in_ok-low.low < 10 ^ 8 = low_below c.args.bytes.now mid c.args.to c.in_ok-low.low low (omega (arith, c.requires.long)) in
    omega (arith, high_fits c.args.bytes.now c.args.from mid c.in_ok-high.high c.in_ok-low.low high (omega (arith, c.requires.few)) under)

pub returns : goal.returns
returns c =
    let mid : ℕ = c.args.to - 8 in
    let high : IsDigitRun 10 c.args.bytes.now c.args.from mid c.in_ok-high.high = run_of_first c.args.bytes.now c.args.from (c.args.to - c.args.from - 8) mid c.in_ok-high.high c.word_at.result (omega (arith, c.if-count-le8.false, c.requires.within)) (λ k. omega (arith, c.type_inv.bytes k)) (omega (arith, c.requires.few)) (omega (arith, c.if-count-le8.false)) c.word_at.ensures c.in_ok-high.ensures in
    let low : IsDigitRun 10 c.args.bytes.now mid c.args.to c.in_ok-low.low = run_of_last c.args.bytes.now mid 8 c.args.to c.in_ok-low.low c.word_at-last.result c.requires.long c.requires.within (λ k. omega (arith, c.type_inv.bytes k)) (omega arith) (omega (arith, c.requires.long)) c.word_at-last.ensures c.in_ok-low.ensures in
    run_of_both c.args.bytes.now c.args.from mid c.args.to c.in_ok-high.high c.in_ok-low.low high low (omega (arith, c.requires.long))
