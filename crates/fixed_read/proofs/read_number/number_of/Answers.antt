use Rattle.std.proofs.Common.{◌≡◌, ◌∙◌, length}
use Rattle.std.proofs.Math.Nat.{one-le-pow}
use Rattle.fixed_numeral.specs.Numeral.{base}
use Rattle.fixed_numeral.specs.Spelled.{spelled}
use Rattle.fixed_bits.specs.Rounded.{magnitude_mode}
use Rattle.fixed_read.specs.Inner.Rounding.{IsMagnitude}
use Rattle.fixed_read.proofs.ReadLemmas.{base_some}
use Rattle.fixed_read.proofs.read_number.number_of.Goals as goal

pub returns-clause-reading : goal.returns-clause-reading
returns-clause-reading g c p h =
    let neg : c.neg-negative.result ≡ c.args.found.now.neg = c.neg-negative.ensures in
    let frac : c.frac.result ≡ c.args.format.frac = c.frac.ensures.frac in
    let side_is : c.magnitude_mode_of.result ≡ magnitude_mode c.args.mode c.neg-negative.result = c.magnitude_mode_of.ensures in
    let mag : IsMagnitude (magnitude_mode c.args.mode c.neg-negative.result) (spelled (base c.args.radix) c.args.found.now.whole c.args.found.now.fraction c.args.found.now.bit_shift) c.args.format.frac c.magnitude-ulps.result = rw (side_is, frac) at c.magnitude-ulps.ensures.magnitude in
    c.number_from.ensures.reading c.args.mode c.args.radix p (spelled (base c.args.radix) c.args.found.now.whole c.args.found.now.fraction c.args.found.now.bit_shift) (neg ∙ h.sign) (one-le-pow (length c.args.found.now.fraction) (base c.args.radix) (base_some c.args.radix)) h.value mag
