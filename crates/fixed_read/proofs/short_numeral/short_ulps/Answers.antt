use Rattle.std.proofs.Common.{◌≡◌, ◌+◌, ◌*◌, ◌^◌, sym, subst, to_z, of_z, FitsSigned, rules}
use Rattle.std.specs.Int.{w32}
use Rattle.std.proofs.lemmas.Int.{to_z-of_z}
use Rattle.fixed_numeral.proofs.Public.{magnitude_pos}
use Rattle.fixed_numeral.specs.Numeral.{base}
use Rattle.fixed_numeral.specs.Value.{magnitude}
use Rattle.fixed_read.specs.Inner.BinaryPower.{ups, downs}
use Rattle.fixed_read.specs.Inner.Rounding.{IsMagnitude}
use Rattle.fixed_read.proofs.ShortNumeralLemmas.{if_some, placed_value, decimal_value}
use Rattle.fixed_read.proofs.short_numeral.short_ulps.Goals as goal

pub returns-in-Dec : goal.returns-in-Dec
returns-in-Dec c =
    if_some _ _ c.decimal_ulps.result (λ ulps f p h. subst (λ n. IsMagnitude c.args.mode n c.args.frac ulps) (sym (decimal_value c.args.radix p c.args.found.negative c.args.found.whole c.args.found.fraction c.args.found.places c.args.found.exponent c.args.found.scales_by_two c.in-Dec.is h)) f) c.decimal_ulps.ensures

pub returns-in_default : goal.returns-in_default
returns-in_default c p h =
    let fit : FitsSigned w32 c.args.found.exponent = search rules in
    let plain : to_z w32 (of_z w32 c.args.found.exponent) ≡ c.args.found.exponent = to_z-of_z w32 c.args.found.exponent fit in
    let power : base c.args.radix ≡ 2 ^ c.bits_of-bits.result = sym c.bits_of-bits.ensures.power in
    let digits = c.args.found.whole * base c.args.radix ^ c.args.found.places + c.args.found.fraction in
    let same : c.binary_digits-digits.result ≡ digits = rw power c.binary_digits-digits.ensures in
    c.binary_ulps.ensures (magnitude c.args.radix p).num (magnitude c.args.radix p).den (magnitude_pos c.args.radix p) (rw (same, plain) (subst (λ n. digits * 2 ^ ups c.bits_of-bits.result c.args.found.places c.args.found.exponent c.args.found.scales_by_two * n.den ≡ n.num * 2 ^ downs c.bits_of-bits.result c.args.found.places c.args.found.exponent c.args.found.scales_by_two) (sym h.value) (placed_value c.args.radix c.bits_of-bits.result digits c.args.found.places c.args.found.exponent c.args.found.scales_by_two power)))
