use Rattle.std.proofs.Common.{◌^◌, ◌≤◌, arith}
use Rattle.std.proofs.Math.Nat.{pow-le-pow_right}
use Rattle.fixed_fit.proofs.ShortLemmas.{fraction_fits}
use Rattle.fixed_fit.proofs.short.fraction_parts.Goals as goal

pub overflow_cast-result : goal.overflow_cast-result
overflow_cast-result c =
    let few : c.args.found.places ≤ 18 = omega (arith, c.if-found-gt18.false) in
    let most : 10 ^ c.args.found.places ≤ 10 ^ 18 = pow-le-pow_right (omega arith) few in
    omega (arith, most, c.requires)

pub overflow_mul-result : goal.overflow_mul-result
overflow_mul-result c = rw c.power_of_ten.ensures (omega (arith, (fraction_fits c.args.found.fraction c.args.found.places (omega (arith, c.if-found-gt18.false)) c.requires).1))

pub returns-clause-most : goal.returns-clause-most
returns-clause-most c = rw c.power_of_ten.ensures (omega (arith, (fraction_fits c.args.found.fraction c.args.found.places (omega (arith, c.if-found-gt18.false)) c.requires).1))

pub returns-clause-parts : goal.returns-clause-parts
returns-clause-parts c = rw c.power_of_ten.ensures (omega (arith, (fraction_fits c.args.found.fraction c.args.found.places (omega (arith, c.if-found-gt18.false)) c.requires).0))

pub returns-clause-same : goal.returns-clause-same
returns-clause-same c = λ few. rw c.power_of_ten.ensures (fraction_fits c.args.found.fraction c.args.found.places few c.requires).0
