use Rattle.std.proofs.Common.{◌≡◌, pos, ◌-ℤ◌, to_z, of_z, FitsSigned, subst, arith, rules}
use Rattle.std.specs.Int.{w32}
use Rattle.std.proofs.lemmas.Int.{to_z-of_z, ints}
use Rattle.fixed_read.specs.Inner.BinaryPower.{ups, downs}
use Rattle.fixed_read.proofs.ShortNumeralLemmas.{net_up, net_down}
use Rattle.fixed_read.proofs.short_numeral.binary_ulps.Goals as goal

pub returns-then-net-ge0 : goal.returns-then-net-ge0
returns-then-net-ge0 c num den some e =
    let fit : FitsSigned w32 c.args.exponent = search rules in
    let same : to_z w32 (of_z w32 c.args.exponent) ≡ c.args.exponent = to_z-of_z w32 c.args.exponent fit in
    let u = ups c.args.bits c.args.places c.args.exponent c.args.scales_by_two in
    let d = downs c.args.bits c.args.places c.args.exponent c.args.scales_by_two in
    let net : c.net_power.result ≡ pos u -ℤ pos d = subst (λ x. c.net_power.result ≡ pos (ups c.args.bits c.args.places x c.args.scales_by_two) -ℤ pos (downs c.args.bits c.args.places x c.args.scales_by_two)) same c.net_power.ensures.power in
    c.raised_ulps.ensures c.args.mode num den c.args.frac some (net_up c.args.digits u d num den c.args.frac _ e (omega (arith, ints, net, c.if-net-ge0.true, c.from.ensures, c.requires.frac, c.net_power.ensures.least, c.net_power.ensures.most)))

pub returns-else-net-ge0 : goal.returns-else-net-ge0
returns-else-net-ge0 c num den some e =
    let fit : FitsSigned w32 c.args.exponent = search rules in
    let same : to_z w32 (of_z w32 c.args.exponent) ≡ c.args.exponent = to_z-of_z w32 c.args.exponent fit in
    let u = ups c.args.bits c.args.places c.args.exponent c.args.scales_by_two in
    let d = downs c.args.bits c.args.places c.args.exponent c.args.scales_by_two in
    let net : c.net_power.result ≡ pos u -ℤ pos d = subst (λ x. c.net_power.result ≡ pos (ups c.args.bits c.args.places x c.args.scales_by_two) -ℤ pos (downs c.args.bits c.args.places x c.args.scales_by_two)) same c.net_power.ensures.power in
    c.lowered_ulps.ensures num den c.args.frac some (net_down c.args.digits u d num den c.args.frac _ e (omega (arith, ints, net, c.if-net-ge0.false, c.from.ensures, c.requires.frac, c.net_power.ensures.least, c.net_power.ensures.most)))
