use Rattle.std.proofs.Common.{◌≡◌, ◌≤◌, ◌-◌, ◌^◌, ◌∙◌, length, take, ap, sym, subst, arith}
use Rattle.std.specs.Prelude.{min}
use Rattle.std.specs.Int.Digits.{number_from_digits}
use Rattle.fixed_numeral.specs.Numeral.{base}
use Rattle.fixed_error.specs.Errors.{block}
use Rattle.fixed_error.specs.Inner.Rest.{first_number}
use Rattle.fixed_error.proofs.RestLemmas.{first_within, product_is}
use Rattle.fixed_error.proofs.rest.take_block.Goals as goal

pub returns-clause-number : goal.returns-clause-number
unfolding first_number
returns-clause-number g c =
    let r = c.args.radix in
    let ds = c.args.digits.now in
    let left : c.block_of-block.result - c.min-taken.result ≡ block r - min (block r) (length ds) = omega (arith, c.block_of-block.ensures, c.from.ensures, c.len.ensures, c.min-taken.ensures) in
    let number : c.take_number-number.result.0 ≡ number_from_digits (base r) (take (block r) ds) = c.take_number-number.ensures.number ∙ (ap (λ b. number_from_digits b (take c.block_of-block.result ds)) c.base.ensures ∙ ap (λ k. number_from_digits (base r) (take k ds)) c.block_of-block.ensures) in
    product_is (base r) c.from-2.result c.power_of-power.result (number_from_digits (base r) (take (block r) ds)) (block r - min (block r) (length ds))
    (c.from-2.ensures ∙ number) (c.power_of-power.ensures.value ∙ ap (λ k. base r ^ k) left)

pub returns-clause-small : goal.returns-clause-small
unfolding first_number
returns-clause-small g c =
    let r = c.args.radix in
    let ds = c.args.digits.now in
    let left : c.block_of-block.result - c.min-taken.result ≡ block r - min (block r) (length ds) = omega (arith, c.block_of-block.ensures, c.from.ensures, c.len.ensures, c.min-taken.ensures) in
    let number : c.take_number-number.result.0 ≡ number_from_digits (base r) (take (block r) ds) = c.take_number-number.ensures.number ∙ (ap (λ b. number_from_digits b (take c.block_of-block.result ds)) c.base.ensures ∙ ap (λ k. number_from_digits (base r) (take k ds)) c.block_of-block.ensures) in
    let is = product_is (base r) c.from-2.result c.power_of-power.result (number_from_digits (base r) (take (block r) ds)) (block r - min (block r) (length ds))
    (c.from-2.ensures ∙ number) (c.power_of-power.ensures.value ∙ ap (λ k. base r ^ k) left) in
    subst (λ n. n ≤ 2 ^ 60) (sym is) (first_within r ds c.requires)
