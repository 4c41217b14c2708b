use Rattle.std.proofs.Common.{◌/◌, ◌%◌, ◌^◌, arith}
use Rattle.fixed_write.proofs.LaneLemmas.{quarters}
use Rattle.fixed_write.proofs.digits.fours.Goals as goal

pub returns : goal.returns
returns c =
    let n = c.args.number in
    let high = c.halves.ensures in
    let low = c.halves-2.ensures in
    quarters _ (n / 10 ^ 12) (n / 10 ^ 8 % 10000) (n / 10000 % 10000) (n % 10000) (omega arith) (omega arith) (omega arith) (omega arith) (omega arith)
