use Rattle.std.proofs.Common.{◌≤◌, ◌^◌, arith}
use Rattle.std.proofs.Math.Nat.{pow-le-pow_right}
use Rattle.fixed_float.proofs.reading.power_of_two.Goals as goal

pub returns-clause-most : goal.returns-clause-most
returns-clause-most c =
    let few : 2 ^ c.args.bits ≤ 2 ^ 62 = pow-le-pow_right {n = 2} (omega arith) {i = c.args.bits} {j = 62} c.requires in
    omega (arith, few)
