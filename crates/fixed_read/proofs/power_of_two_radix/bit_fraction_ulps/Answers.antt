use Rattle.std.proofs.Common.{drop, ◌≡◌, refl, ◌+◌, ◌-◌, ◌*◌, ◌/◌, ◌^◌, arith, mod-lt, pow_pos}
use Rattle.fixed_read.proofs.DigitLemmas.{longer_some}
use Rattle.fixed_read.proofs.PartLemmas.{part_at, spare_half}
use Rattle.fixed_read.proofs.power_of_two_radix.bit_fraction_ulps.Goals as goal

pub lost_fraction_of-requires : goal.lost_fraction_of-requires
lost_fraction_of-requires g c =
    let half : c.power_of_two.result ≡ 2 ^ ((c.args.fraction_bits / c.args.bits + 1) * c.args.bits - c.args.fraction_bits - 1) = c.power_of_two.ensures in
    let two = spare_half c.args.bits c.args.fraction_bits c.requires.some in
    omega (arith, c.split_bits-whole.ensures.low, mod-lt c.leading_block-block.result (pow_pos ((c.args.fraction_bits / c.args.bits + 1) * c.args.bits - c.args.fraction_bits)), half, two)

pub returns-clause-ulps : goal.returns-clause-ulps
returns-clause-ulps g c =
    let half : c.power_of_two.result ≡ 2 ^ ((c.args.fraction_bits / c.args.bits + 1) * c.args.bits - c.args.fraction_bits - 1) = c.power_of_two.ensures in
    part_at c.args.bits c.args.fraction_bits (c.args.fraction_bits / c.args.bits + 1) c.leading_block-block.result c.split_bits-whole.result.0 c.split_bits-whole.result.1 c.power_of_two.result (2 ^ c.args.bits) c.args.view.now (drop (c.args.fraction_bits / c.args.bits + 1) c.args.view.now) c.is_longer.result c.lost_fraction_of.result c.requires.some refl refl half c.split_bits-whole.ensures.high c.split_bits-whole.ensures.low c.leading_block-block.ensures.led (longer_some c.args.view.now (c.args.fraction_bits / c.args.bits + 1) c.is_longer.result c.is_longer.ensures) c.lost_fraction_of.ensures
