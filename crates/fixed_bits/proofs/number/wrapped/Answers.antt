use Rattle.std.proofs.Common.{◌≡◌, ◌+◌, ◌-◌, ◌^◌, ◌<◌, arith, mod-lt, pow_pos}
use Rattle.fixed_bits.proofs.NumberLemmas.{wrapped_low, wrapped_turned}
use Rattle.fixed_bits.proofs.number.wrapped.Goals as goal

pub returns-then-low-end-clause-image : goal.returns-then-low-end-clause-image
returns-then-low-end-clause-image c =
    let f = c.args.format in
    let low = c.low_bits-low.result in
    let below : low < 2 ^ f.width = rw c.low_bits-low.ensures.bits (mod-lt c.args.magnitude (pow_pos f.width)) in
    let turn : c.ones.result - low + 1 ≡ 2 ^ f.width - low = omega (arith, c.ones.ensures.ones, below) in
    rw turn (wrapped_turned f c.args.negative c.args.magnitude c.greatest_magnitude-end.result low c.low_bits-low.ensures.valid.is_width c.greatest_magnitude-end.ensures.magnitude c.low_bits-low.ensures.bits (omega (arith, c.if-low-end.true)))

pub returns-else-low-end-clause-image : goal.returns-else-low-end-clause-image
returns-else-low-end-clause-image c = wrapped_low c.args.format c.args.negative c.args.magnitude c.greatest_magnitude-end.result c.low_bits-low.result c.greatest_magnitude-end.ensures.magnitude c.low_bits-low.ensures.bits (omega (arith, c.if-low-end.false))
