use Rattle.std.proofs.Common.{◌≡◌, ◌+◌, ◌*◌, ◌%◌, ◌^◌, ◌∙◌, not, drop, ap, sym, arith, if◌then◌else◌}
use Rattle.fixed_numeral.specs.Numeral.{base}
use Rattle.fixed_error.specs.Errors.{block}
use Rattle.fixed_error.specs.Inner.Rest.{first_number}
use Rattle.fixed_error.proofs.RestLemmas.{not_cut, rest_found, shift_most}
use Rattle.fixed_error.proofs.rest.rest_of_scanned.Goals as goal

pub rest_by-requires-clause-unit : goal.rest_by-requires-clause-unit
rest_by-requires-clause-unit g c =
    let e : c.power_of_two-shift.result ≡ 2 ^ c.args.found.now.bit_shift = c.power_of_two-shift.ensures ∙ ap (λ k. 2 ^ k) c.bit_shift.ensures in
    omega (arith, e, shift_most c.args.radix c.args.found.now.bit_shift c.requires.bits)

pub returns : goal.returns
returns g c = λ text scanned.
    let r = c.args.radix in
    let ds = c.args.found.now.fraction in
    let high : c.take_block-high.result.0 ≡ first_number (base r) (block r) ds = c.take_block-high.ensures.number ∙ ap (first_number (base r) (block r)) c.fraction_view.ensures in
    let later : c.take_block-high.result.1 ≡ drop (block r) ds = c.take_block-high.ensures.rest ∙ ap (drop (block r)) c.fraction_view.ensures in
    let low : c.take_block-low.result.0 ≡ first_number (base r) (block r) (drop (block r) ds) = c.take_block-low.ensures.number ∙ ap (first_number (base r) (block r)) later in
    let last : c.take_block-low.result.1 ≡ drop (block r) (drop (block r) ds) = c.take_block-low.ensures.rest ∙ ap (drop (block r)) later in
    let unit : c.power_of-unit.result ≡ base r ^ block r = c.power_of-unit.ensures.value ∙ ap (λ k. base r ^ k) c.block_of.ensures in
    let shift : c.power_of_two-shift.result ≡ 2 ^ c.args.found.now.bit_shift = c.power_of_two-shift.ensures ∙ ap (λ k. 2 ^ k) c.bit_shift.ensures in
    rest_found r text c.args.found.now.neg c.args.found.now.whole ds c.args.found.now.bit_shift (not c.is_empty.result) c.rest_by.result c.requires.fraction c.requires.bits scanned
    (λ cut. sym last ∙ not_cut c.is_empty.result c.take_block-low.result.1 c.is_empty.ensures cut)
    (c.rest_by.ensures.one ∙ ap (λ u. u * u) unit)
    (c.rest_by.ensures.rest ∙ (ap (λ h. (h * c.power_of-unit.result + c.take_block-low.result.0) * c.power_of_two-shift.result % (c.power_of-unit.result * c.power_of-unit.result)) high
    ∙ (ap (λ l. (first_number (base r) (block r) ds * c.power_of-unit.result + l) * c.power_of_two-shift.result % (c.power_of-unit.result * c.power_of-unit.result)) low
    ∙ (ap (λ u. (first_number (base r) (block r) ds * u + first_number (base r) (block r) (drop (block r) ds)) * c.power_of_two-shift.result % (u * u)) unit
    ∙ ap (λ t. (first_number (base r) (block r) ds * (base r ^ block r) + first_number (base r) (block r) (drop (block r) ds)) * t % (base r ^ block r * base r ^ block r)) shift))))
    (c.rest_by.ensures.slack ∙ ap (λ t. if not c.is_empty.result then t else 0) shift)
