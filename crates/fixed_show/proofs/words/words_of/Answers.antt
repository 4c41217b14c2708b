use Rattle.std.proofs.Common.{◌≤◌, ◌^◌, arith}
use Rattle.std.proofs.Math.Nat.{pow-le-pow_right}
use Rattle.fixed_show.proofs.words.words_of.Goals as goal

pub returns-clause-most : goal.returns-clause-most
returns-clause-most c =
    let within : c.width.result ≤ 64 = omega (arith, c.width.ensures.width, c.width.ensures.valid.is_width.most) in
    let most : 2 ^ c.width.result ≤ 2 ^ 64 = pow-le-pow_right {n = 2} (omega arith) within in
    omega (arith, most)
