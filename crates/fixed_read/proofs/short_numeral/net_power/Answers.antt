use Rattle.std.proofs.Common.{◌≡◌, ◌∙◌, cond, pos, ◌-ℤ◌, ◌*ℤ◌, to_z, of_z, FitsSigned, arith, rules}
use Rattle.std.specs.Int.{w32, w64}
use Rattle.std.proofs.lemmas.Int.{to_z-of_z, ints}
use Rattle.fixed_read.proofs.ShortNumeralLemmas.{net_is}
use Rattle.fixed_read.proofs.short_numeral.net_power.Goals as goal
use Rattle.fixed_read.proofs.short_numeral.net_power.Goals.{then-scales_by_two, else-scales_by_two}

pub returns-clause-power : goal.returns-clause-power
returns-clause-power c =
    let fit : FitsSigned w32 c.args.exponent = search rules in
    let same : to_z w32 (of_z w32 c.args.exponent) ≡ c.args.exponent = to_z-of_z w32 c.args.exponent fit in
    let whole : to_z w64 (of_z w64 c.from.result) ≡ c.args.exponent = to_z-of_z w64 c.from.result (search rules) ∙ c.from.ensures ∙ same in
    let places : to_z w64 (of_z w64 c.from-2.result) ≡ pos c.args.places = to_z-of_z w64 c.from-2.result (search rules) ∙ c.from-2.ensures in
    let first : c.times.result ≡ pos c.if-scales_by_two.unit *ℤ c.args.exponent = rw whole at c.times.ensures.product in
    let second : c.times-2.result ≡ pos c.args.bits *ℤ pos c.args.places = rw places at c.times-2.ensures.product in
    let unit : c.if-scales_by_two.unit ≡ cond c.args.scales_by_two 1 c.args.bits = elim c.if-scales_by_two.branch [ then-scales_by_two w ↦ rw w.if-scales_by_two.true w.unit-is | else-scales_by_two w ↦ rw w.if-scales_by_two.false w.unit-is ] in
    let plain : to_z w64 (of_z w64 (to_z w64 (of_z w64 c.times.result) -ℤ to_z w64 (of_z w64 c.times-2.result))) ≡ c.times.result -ℤ c.times-2.result = omega (arith, ints, c.times.ensures.least, c.times.ensures.most, c.times-2.ensures.least, c.times-2.ensures.most) in
    let net = net_is c.args.bits c.args.places c.if-scales_by_two.unit c.args.exponent c.args.scales_by_two c.requires unit in
    plain ∙ rw (first, second) net
