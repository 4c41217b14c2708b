use Rattle.std.proofs.Common.{◌+◌, ◌*◌, ◌≤◌, length, arith}
use Rattle.std.proofs.Math.Nat.{mul-le-mul_right}
use Rattle.fixed_write.proofs.PutLemmas.{put_again, repeat_length}
use Rattle.fixed_write.proofs.styled_text.put_times.Goals as goal

pub put-end-requires : goal.put-end-requires
put-end-requires c =
    let more : (c.copies.done + 1) * length c.args.part.now ≤ c.args.times * length c.args.part.now = mul-le-mul_right (length c.args.part.now) (omega (arith, c.copies-test.true)) in
    omega (arith, c.requires, more, c.copies.invariant.place, repeat_length c.copies.done c.args.part.now, c.copies.auto.out)

pub copies-preserved : goal.copies-preserved
copies-preserved c =
    put_again c.args.part.now c.args.out.now c.copies.out c.put-end.new.out c.copies.done c.args.at c.copies.end c.put-end.result c.copies.invariant c.put-end.ensures
