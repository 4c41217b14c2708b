use Rattle.std.proofs.Common.{◌≡◌, ◌+◌, ◌*◌, ◌^◌, refl}
use Rattle.fixed_read.proofs.ShortNumeralLemmas.{magnitude_is_rounded, split_high}
use Rattle.fixed_read.proofs.magnitude.rounded_ulps.Goals as goal

pub returns : goal.returns
returns c num den frac some h =
    let split : c.args.count + c.from.result ≡ c.split_bits-high.result.0 * 2 ^ 64 + c.split_bits-high.result.1 = split_high (c.args.count + c.from.result) c.split_bits-high.result.0 c.split_bits-high.result.1 (2 ^ 64) c.split_bits-high.ensures.high c.split_bits-high.ensures.low in
    magnitude_is_rounded c.args.mode num den frac c.args.count c.lost_increment.result c.split_bits-high.result.0 c.args.lost _ some h (c.lost_increment.ensures.to c.args.count h.rest h.unit h.some refl h.left) c.is_zero.ensures (rw c.from.ensures at split) c.is_some.ensures
