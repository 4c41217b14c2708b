use Rattle.std.proofs.Common.{◌≡◌, ℕ, ◌+◌, ◌<◌, length, arith, subst, ◌∙◌}
use Rattle.fixed_numeral.specs.Inner.Segments.{IsDigitRun}
use Rattle.fixed_numeral.specs.Numeral.{base}
use Rattle.fixed_numeral.proofs.SegmentLemmas.{mantissa_parted}
use Rattle.fixed_numeral.proofs.ending.mantissa_at.Goals as goal

pub returns : goal.returns
returns c =
    let same : c.from-base.result ≡ base c.args.radix = c.from-base.ensures ∙ c.base.ensures in
    let point : ℕ = c.unmarked_end-point.result in
    let whole = subst (λ b. IsDigitRun b c.args.text.now c.args.from point c.number_between-whole.result) same c.number_between-whole.ensures in
    let fraction = subst (λ b. IsDigitRun b c.args.text.now (point + 1) c.unmarked_end-end.result c.number_between.result) same c.number_between.ensures in
    let before : point < length c.args.text.now = omega (arith, c.if-point-text.false, c.unmarked_end-point.ensures.within) in
    rw c.from.ensures (mantissa_parted (base c.args.radix) c.args.text.now c.args.from point c.unmarked_end-end.result c.number_between-whole.result c.number_between.result _ whole before c.if-text-point-ne46.false fraction (omega (arith, c.unmarked_end-end.ensures.least)) (omega (arith, c.if-end-from.false, c.unmarked_end-end.ensures.least, c.unmarked_end-point.ensures.least)))
