use Rattle.std.proofs.Common.{◌≡◌, ◌∙◌, drop, ap, arith}
use Rattle.fixed_numeral.specs.Numeral.{base}
use Rattle.fixed_error.specs.Errors.{block}
use Rattle.fixed_error.specs.Inner.Rest.{first_number}
use Rattle.fixed_error.proofs.CutLemmas.{above_found, few_after, product_most, unit_most}
use Rattle.fixed_error.proofs.cut.cut_rest.Goals as goal

pub cut_product-cut-requires-clause-unit : goal.cut_product-cut-requires-clause-unit
cut_product-cut-requires-clause-unit g c = unit_most c.args.radix c.args.frac c.args.found.now.bit_shift c.power_of_two-unit.result c.requires.frac c.requires.bits (rw c.bit_shift.ensures at c.power_of_two-unit.ensures)

pub cut_product-cut-requires-clause-few : goal.cut_product-cut-requires-clause-few
cut_product-cut-requires-clause-few g c =
    let r = c.args.radix in
    let later : c.take_block-high.result.1 ≡ drop (block r) c.args.found.now.fraction = c.take_block-high.ensures.rest ∙ ap (drop (block r)) c.fraction_view.ensures in
    few_after (base r) (block r) c.args.bytes c.args.found.now.fraction c.take_block-high.result.1 c.requires.few later

pub overflow_mul-result : goal.overflow_mul-result
overflow_mul-result g c =
    let unit = unit_most c.args.radix c.args.frac c.args.found.now.bit_shift c.power_of_two-unit.result c.requires.frac c.requires.bits (rw c.bit_shift.ensures at c.power_of_two-unit.ensures) in
    omega (arith, product_most c.power_of_two-unit.result c.take_block-high.result.0 unit c.take_block-high.ensures.small)

pub overflow_add-result : goal.overflow_add-result
overflow_add-result g c =
    let unit = unit_most c.args.radix c.args.frac c.args.found.now.bit_shift c.power_of_two-unit.result c.requires.frac c.requires.bits (rw c.bit_shift.ensures at c.power_of_two-unit.ensures) in
    omega (arith, product_most c.power_of_two-unit.result c.take_block-high.result.0 unit c.take_block-high.ensures.small, unit, c.cut_product-cut.ensures.small)

pub returns-clause-above : goal.returns-clause-above
returns-clause-above g c = λ p scanned.
    let r = c.args.radix in
    let found = c.args.found.now in
    let high : c.take_block-high.result.0 ≡ first_number (base r) (block r) found.fraction = c.take_block-high.ensures.number ∙ ap (first_number (base r) (block r)) c.fraction_view.ensures in
    let later : c.take_block-high.result.1 ≡ drop (block r) found.fraction = c.take_block-high.ensures.rest ∙ ap (drop (block r)) c.fraction_view.ensures in
    above_found r p c.args.frac found.neg found.whole found.fraction c.take_block-high.result.1 found.bit_shift c.cut_product-cut.result.whole c.power_of_two-unit.result c.power_of-one.result c.take_block-high.result.0 c.cut_product-cut.result.is_more
    scanned (rw c.bit_shift.ensures at c.power_of_two-unit.ensures) (rw c.block_of.ensures at c.power_of-one.ensures.value) high later c.cut_product-cut.ensures.cut
