use Rattle.std.proofs.Common.{◌≡◌, ◌≤◌, ◌∙◌, ◌+◌, ◌-◌, ◌*◌, ◌^◌, drop, length, sym, ap, subst, arith}
use Rattle.std.specs.Int.Digits.{AllBelowBase, number_from_digits}
use Rattle.fixed_numeral.proofs.Public.{below_split}
use Rattle.fixed_numeral.specs.Numeral.{base}
use Rattle.fixed_error.specs.Errors.{block}
use Rattle.fixed_error.specs.Inner.Rest.{first_number}
use Rattle.fixed_error.proofs.CutLemmas.{few_after, none_less, one_less, product_cut, some_whole}
use Rattle.fixed_error.proofs.RestLemmas.{first_below}
use Rattle.fixed_error.proofs.cut.cut_product.Goals as goal

pub ceiling_of-found-requires-clause-high : goal.ceiling_of-found-requires-clause-high
ceiling_of-found-requires-clause-high g c =
    let value = rw c.block_of.ensures at c.power_of.ensures.value in
    omega (arith, first_below c.args.radix c.args.digits.now c.requires.digits, c.take_block-high.ensures.number, value)

pub ceiling_of-found-requires-clause-low : goal.ceiling_of-found-requires-clause-low
ceiling_of-found-requires-clause-low g c =
    let r = c.args.radix in
    let ds = c.args.digits.now in
    let value = rw c.block_of.ensures at c.power_of.ensures.value in
    let number : c.take_block-low.result.0 ≡ first_number (base r) (block r) (drop (block r) ds) = c.take_block-low.ensures.number ∙ ap (first_number (base r) (block r)) c.take_block-high.ensures.rest in
    omega (arith, first_below r (drop (block r) ds) (below_split (base r) ds (block r) c.requires.digits).1, number, value)

pub order_of-is_less-requires-clause-few : goal.order_of-is_less-requires-clause-few
order_of-is_less-requires-clause-few g c =
    let b = base c.args.radix in
    let h = block c.args.radix in
    few_after b h c.args.bytes c.take_block-high.result.1 c.take_block-low.result.1 (few_after b h c.args.bytes c.args.digits.now c.take_block-high.result.1 c.requires.few c.take_block-high.ensures.rest) c.take_block-low.ensures.rest

pub returns-clause-cut : goal.returns-clause-cut
returns-clause-cut g c =
    let r = c.args.radix in
    let ds = c.args.digits.now in
    let found = c.ceiling_of-found.result in
    let is_less = c.order_of-is_less.result.0 in
    let last : c.take_block-low.result.1 ≡ drop (block r) (drop (block r) ds) = c.take_block-low.ensures.rest ∙ ap (drop (block r)) c.take_block-high.ensures.rest in
    let number : c.take_block-low.result.0 ≡ first_number (base r) (block r) (drop (block r) ds) = c.take_block-low.ensures.number ∙ ap (first_number (base r) (block r)) c.take_block-high.ensures.rest in
    let later : AllBelowBase (base r) (drop (block r) ds) = (below_split (base r) ds (block r) c.requires.digits).1 in
    let all : AllBelowBase (base r) c.take_block-low.result.1 = subst (AllBelowBase (base r)) (sym last) (below_split (base r) (drop (block r) ds) (block r) later).1 in
    let some = some_whole found.whole (c.power_of.result * c.power_of.result) c.args.unit (c.take_block-high.result.0 * c.power_of.result + c.take_block-low.result.0) found.more (number_from_digits (base r) c.take_block-low.result.1) (base r ^ length c.take_block-low.result.1) is_less c.ceiling_of-found.ensures.whole c.order_of-is_less.ensures.less in
    let most : c.from.result ≤ found.whole = omega (arith, c.from.ensures, some) in
    product_cut r ds c.take_block-low.result.1 c.args.unit c.power_of.result c.take_block-high.result.0 c.take_block-low.result.0 found.more (found.whole - c.from.result) found.whole is_less c.order_of-is_less.result.1
    all c.requires.unit c.ceiling_of-found.ensures.more (rw c.block_of.ensures at c.power_of.ensures.value) c.take_block-high.ensures.number number last c.ceiling_of-found.ensures.whole
    (one_less is_less found.whole c.from.result c.from.ensures most) (none_less is_less found.whole c.from.result c.from.ensures) c.order_of-is_less.ensures.less c.order_of-is_less.ensures.greater
