use Rattle.std.proofs.Common.{◌≡◌, ◌<◌, ◌-◌, ◌∙◌, arith}
use Rattle.fixed_error.specs.Cut.{cut_parts}
use Rattle.fixed_error.proofs.CutLemmas.{bool_most, error_down, error_up, left_more, left_none, parts_are, signed_small}
use Rattle.fixed_error.proofs.FewLemmas.{few_digits}
use Rattle.fixed_error.proofs.cut.cut_by_digits.Goals as goal

pub cut_rest-rest-requires-clause-few : goal.cut_rest-rest-requires-clause-few
cut_rest-rest-requires-clause-few g c =
    let scanned = rw c.in-Ok.is at c.scan-scanned.ensures.reading.read in
    let found = c.in-Ok.found in
    few_digits c.args.radix c.args.numeral.now c.requires.numeral.0 found.neg found.whole found.fraction found.bit_shift c.requires.numeral.1 (scanned c.requires.numeral.0 c.requires.numeral.1)

pub overflow_cast-rest : goal.overflow_cast-rest
overflow_cast-rest g c = omega (arith, c.cut_rest-rest.ensures.below, c.power_of-one.ensures.value, c.power_of-one.ensures.small, rw c.block_of.ensures at c.power_of-one.ensures.value)

pub returns-then-ulps-below-clause-cut : goal.returns-then-ulps-below-clause-cut
returns-then-ulps-below-clause-cut g c = λ mode h.
    let scanned = rw c.in-Ok.is at c.scan-scanned.ensures.reading.read in
    error_down mode c.args.radix c.args.frac c.args.numeral.now c.steps_in-below.result c.args.ulps c.cut_rest-rest.result.whole c.cut_rest-rest.result.is_more c.neg.result c.signed_cut.result
    (omega (arith, c.ranges.ulps.fits)) c.if-ulps-below.true c.steps_in-below.ensures.rounded
    (λ p n. c.neg.ensures ∙ (scanned p n).sign) (λ p n. c.cut_rest-rest.ensures.above p (scanned p n)) c.signed_cut.ensures.signed h

pub returns-then-ulps-below-clause-small : goal.returns-then-ulps-below-clause-small
returns-then-ulps-below-clause-small g c =
    let sum = signed_small _ _ _ c.signed_cut.result c.signed_cut.ensures.signed in
    omega (arith, sum, c.cut_rest-rest.ensures.below, c.power_of-one.ensures.small, rw c.block_of.ensures at c.power_of-one.ensures.value)

pub overflow_sub-over : goal.overflow_sub-over
overflow_sub-over g c = omega (arith, c.cut_rest-rest.ensures.below, rw c.block_of.ensures at c.power_of-one.ensures.value)

pub overflow_sub-over-in-Ok : goal.overflow_sub-over-in-Ok
overflow_sub-over-in-Ok g c =
    let one = bool_most c.cut_rest-rest.result.is_more c.from.result c.from.ensures in
    omega (arith, one, c.cut_rest-rest.ensures.below, rw c.block_of.ensures at c.power_of-one.ensures.value)

pub returns-clause-cut : goal.returns-clause-cut
returns-clause-cut g c = λ mode h.
    let scanned = rw c.in-Ok.is at c.scan-scanned.ensures.reading.read in
    let one = c.power_of-one.result in
    let rest = c.cut_rest-rest.result.whole in
    let more = c.cut_rest-rest.result.is_more in
    let value = rw c.block_of.ensures at c.power_of-one.ensures.value in
    let parts : one ≡ cut_parts c.args.radix = parts_are c.args.radix one value in
    let less : rest < one = omega (arith, c.cut_rest-rest.ensures.below, value) in
    error_up mode c.args.radix c.args.frac c.args.numeral.now c.steps_in-below.result c.args.ulps rest (one - rest - c.from.result) more c.neg-in-Ok.result c.signed_cut-in-Ok.result
    (omega (arith, c.ranges.ulps.fits)) c.if-ulps-below.false c.steps_in-below.ensures.rounded
    (λ p n. c.neg-in-Ok.ensures ∙ (scanned p n).sign) (λ p n. c.cut_rest-rest.ensures.above p (scanned p n))
    (λ is. left_more more one rest c.from.result c.from.ensures less is ∙ parts) (λ is. left_none more one rest c.from.result c.from.ensures less is ∙ parts) c.signed_cut-in-Ok.ensures.signed h

pub returns-clause-small : goal.returns-clause-small
returns-clause-small g c =
    let sum = signed_small _ _ _ c.signed_cut-in-Ok.result c.signed_cut-in-Ok.ensures.signed in
    omega (arith, sum, c.power_of-one.ensures.small)
