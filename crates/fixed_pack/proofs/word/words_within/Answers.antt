use Rattle.std.proofs.Common.{◌*◌, ◌/◌, ap, arith}
use Rattle.std.proofs.Math.Nat.{min-le_left, mul-div-le, mul-le-mul_left}
use Rattle.fixed_pack.proofs.word.words_within.Goals as goal

pub returns-clause-bytes : goal.returns-clause-bytes
returns-clause-bytes c =
    let size = c.args.size in
    let least = mul-le-mul_left size (min-le_left (c.args.bytes / size) (c.args.room / 8)) in
    omega (arith, ap (λ n. size * n) c.min.ensures, least, mul-div-le c.args.bytes size)
