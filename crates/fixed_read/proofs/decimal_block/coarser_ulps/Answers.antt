use Rattle.std.proofs.Common.{◌≡◌, ◌+◌, ◌*◌, ◌^◌, ◌/◌, ◌%◌, sym, ◌∙◌, ap, div-add-mod', mod-lt, pow_pos}
use Rattle.fixed_read.proofs.ShortNumeralLemmas.{split_coarser, half_of}
use Rattle.fixed_read.proofs.decimal_block.coarser_ulps.Goals as goal

pub lost_fraction_of-requires : goal.lost_fraction_of-requires
lost_fraction_of-requires c =
    let two = half_of c.args.bits c.requires.some in
    rw (c.split_bits-whole.ensures.low, c.power_of_two.ensures, ← two) (mod-lt c.from.result (pow_pos c.args.bits))

pub returns-clause-split : goal.returns-clause-split
returns-clause-split c num den frac h =
    let two : 2 ^ c.args.bits ≡ 2 * c.power_of_two.result = half_of c.args.bits c.requires.some ∙ ap (λ x. 2 * x) (sym c.power_of_two.ensures) in
    let whole : c.to_u64.result ≡ c.split_bits-whole.result.0 = c.to_u64.ensures in
    let back : c.from.result / 2 ^ c.args.bits * 2 ^ c.args.bits + c.from.result % 2 ^ c.args.bits ≡ c.from.result = div-add-mod' c.from.result (2 ^ c.args.bits) in
    let split : c.args.ulps ≡ c.to_u64.result * 2 ^ c.args.bits + c.split_bits-whole.result.1 = rw (whole, c.split_bits-whole.ensures.high, c.split_bits-whole.ensures.low) (sym c.from.ensures ∙ sym back) in
    split_coarser num den frac c.args.bits c.args.ulps c.to_u64.result c.split_bits-whole.result.1 c.power_of_two.result c.args.lost c.lost_fraction_of.result two split h (λ d y small some left. c.lost_fraction_of.ensures d y small (c.is_above_zero.ensures y d some left))
