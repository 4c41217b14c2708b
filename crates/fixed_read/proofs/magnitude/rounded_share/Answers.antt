use Rattle.std.proofs.Common.{◌≡◌, ◌+◌, ◌*◌, ◌^◌, refl}
use Rattle.fixed_read.proofs.ShortNumeralLemmas.{split_high}
use Rattle.fixed_read.proofs.ShareLemmas.{magnitude_of_share}
use Rattle.fixed_read.proofs.magnitude.rounded_share.Goals as goal

pub returns : goal.returns
returns c num den frac some h =
    let split : c.args.count + c.from.result ≡ c.split_bits-high.result.0 * 2 ^ 64 + c.split_bits-high.result.1 = split_high (c.args.count + c.from.result) c.split_bits-high.result.0 c.split_bits-high.result.1 (2 ^ 64) c.split_bits-high.ensures.high c.split_bits-high.ensures.low in
    magnitude_of_share c.args.mode num den frac c.args.count c.args.rest c.args.unit c.share_increment.result c.split_bits-high.result.0 _ some h (c.share_increment.ensures.to c.args.count refl) c.is_nothing.ensures (rw c.from.ensures at split) c.is_some.ensures
