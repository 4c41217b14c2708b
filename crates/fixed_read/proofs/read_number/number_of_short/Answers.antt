use Rattle.std.proofs.Common.{◌≡◌, refl}
use Rattle.fixed_numeral.specs.Value.{magnitude}
use Rattle.fixed_numeral.proofs.Public.{magnitude_pos}
use Rattle.fixed_bits.specs.Rounded.{magnitude_mode}
use Rattle.fixed_read.specs.Inner.Rounding.{IsMagnitude}
use Rattle.fixed_read.proofs.read_number.number_of_short.Goals as goal

pub returns-in-Some-clause-reading : goal.returns-in-Some-clause-reading
returns-in-Some-clause-reading c p h =
    let frac : c.frac.result ≡ c.args.format.frac = c.frac.ensures.frac in
    let side : c.magnitude_mode_of-own_mode.result ≡ magnitude_mode c.args.mode c.args.found.negative = c.magnitude_mode_of-own_mode.ensures in
    let mag : IsMagnitude (magnitude_mode c.args.mode c.args.found.negative) (magnitude c.args.radix p) c.args.format.frac c.in-Some.ulps = rw (side, frac) at (c.in-Some.ensures p h) in
    c.number_from.ensures.reading c.args.mode c.args.radix p (magnitude c.args.radix p) h.sign (magnitude_pos c.args.radix p) refl mag
