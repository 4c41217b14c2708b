use Rattle.std.proofs.Common.{rules, ◌<◌, ◌≤◌, ◌+◌, ◌^◌, ℕ, ℤ, FitsSigned, arith, subst, sym, ap}
use Rattle.std.specs.Int.{w128}
use Rattle.std.proofs.lemmas.Int.{to_z-of_z}
use Rattle.fixed_float.specs.Floats.{precision}
use Rattle.fixed_float.specs.Inner.Fields.{IsMagnitudeFloat}
use Rattle.fixed_float.specs.Nearest.{IsExactFloat, IsNearestFloat}
use Rattle.fixed_float.proofs.SignLemmas.{float_exact, float_few, float_nearest, none_is, some_bits, small, zero_exact, zero_few, zero_nearest}
use Rattle.fixed_float.proofs.nearest.float_of.Goals as goal

pub returns-then-magnitude-eq0-clause-few : goal.returns-then-magnitude-eq0-clause-few
returns-then-magnitude-eq0-clause-few c = zero_few c.args.layout

pub returns-then-magnitude-eq0-clause-nearest : goal.returns-then-magnitude-eq0-clause-nearest
returns-then-magnitude-eq0-clause-nearest c =
    let fits : FitsSigned w128 c.args.number = search rules in
    let is = rw (to_z-of_z w128 c.args.number fits) at c.sign_and_magnitude-negative.ensures.value in
    let none = none_is c.sign_and_magnitude-negative.result.0 c.sign_and_magnitude-negative.result.1 c.args.number is c.if-magnitude-eq0.true in
    subst (λ (v : ℤ). IsNearestFloat c.args.layout v c.args.format.frac 0) (sym none) (zero_nearest c.args.layout c.args.format.frac)

pub returns-then-magnitude-eq0-clause-exact : goal.returns-then-magnitude-eq0-clause-exact
returns-then-magnitude-eq0-clause-exact c few =
    let fits : FitsSigned w128 c.args.number = search rules in
    let is = rw (to_z-of_z w128 c.args.number fits) at c.sign_and_magnitude-negative.ensures.value in
    let none = none_is c.sign_and_magnitude-negative.result.0 c.sign_and_magnitude-negative.result.1 c.args.number is c.if-magnitude-eq0.true in
    subst (λ (v : ℤ). IsExactFloat c.args.layout v c.args.format.frac 0) (sym none) (zero_exact c.args.layout c.args.format.frac)

pub returns-clause-few : goal.returns-clause-few
returns-clause-few c =
    let m : ℕ = c.sign_and_magnitude-negative.result.1 in
    let made : IsMagnitudeFloat c.args.layout m c.args.format.frac c.magnitude_bits.result = subst (λ (f : ℕ). IsMagnitudeFloat c.args.layout m f c.magnitude_bits.result) c.frac.ensures.frac c.magnitude_bits.ensures in
    rw c.sign_bit.ensures (float_few c.args.layout c.sign_and_magnitude-negative.result.0 m c.args.format.frac c.magnitude_bits.result made)

pub returns-clause-nearest : goal.returns-clause-nearest
returns-clause-nearest c =
    let fits : FitsSigned w128 c.args.number = search rules in
    let is = rw (to_z-of_z w128 c.args.number fits) at c.sign_and_magnitude-negative.ensures.value in
    let m : ℕ = c.sign_and_magnitude-negative.result.1 in
    let some : 0 < m = let f = c.if-magnitude-eq0.false in omega arith in
    let within : c.args.format.frac ≤ 64 = omega (arith, c.frac.ensures.valid.within, c.frac.ensures.valid.is_width.most) in
    let made : IsMagnitudeFloat c.args.layout m c.args.format.frac c.magnitude_bits.result = subst (λ (f : ℕ). IsMagnitudeFloat c.args.layout m f c.magnitude_bits.result) c.frac.ensures.frac c.magnitude_bits.ensures in
    float_nearest c.args.layout c.sign_and_magnitude-negative.result.0 m c.args.format.frac c.magnitude_bits.result _ c.args.number made within some (ap (λ x. x + c.magnitude_bits.result) c.sign_bit.ensures) is

pub returns-clause-exact : goal.returns-clause-exact
returns-clause-exact c few =
    let fits : FitsSigned w128 c.args.number = search rules in
    let is = rw (to_z-of_z w128 c.args.number fits) at c.sign_and_magnitude-negative.ensures.value in
    let m : ℕ = c.sign_and_magnitude-negative.result.1 in
    let some : 0 < m = let f = c.if-magnitude-eq0.false in omega arith in
    let within : c.args.format.frac ≤ 64 = omega (arith, c.frac.ensures.valid.within, c.frac.ensures.valid.is_width.most) in
    let made : IsMagnitudeFloat c.args.layout m c.args.format.frac c.magnitude_bits.result = subst (λ (f : ℕ). IsMagnitudeFloat c.args.layout m f c.magnitude_bits.result) c.frac.ensures.frac c.magnitude_bits.ensures in
    let low : m < 2 ^ precision c.args.layout = small c.args.format.signed c.sign_and_magnitude-negative.result.0 (precision c.args.layout) c.args.format.width m c.args.number (some_bits c.args.layout) is c.requires few in
    float_exact c.args.layout c.sign_and_magnitude-negative.result.0 m c.args.format.frac c.magnitude_bits.result _ c.args.number made within some (ap (λ x. x + c.magnitude_bits.result) c.sign_bit.ensures) is low
