use Rattle.std.proofs.Common.{◌≤◌, ◌+◌, length, take, drop, arith}
use Rattle.fixed_numeral.proofs.ExponentLemmas.{taken_eight}
use Rattle.fixed_numeral.proofs.LaneLemmas.{eight_long, eight_below}
use Rattle.fixed_numeral.proofs.scanner.after_exponent_digits.Goals as goal

pub loop-next-preserved : goal.loop-next-preserved
loop-next-preserved c =
    let here : c.loop-next.at + 8 ≤ length c.args.bytes.now = omega (arith, c.if-bytes-at-ge8.true) in
    record {
      place = omega (arith, c.loop-next.invariant.place);
      within = here;
      room = c.in-Some.ensures.room;
      after = λ r a. taken_eight c.args.bytes.now c.loop-next.at r c.in-Some.after (c.in-Some.ensures.after r (take c.loop-next.at c.args.bytes.now) (take 8 (drop c.loop-next.at c.args.bytes.now)) (c.loop-next.invariant.after r a) (eight_long c.args.bytes.now c.loop-next.at here) (eight_below c.args.bytes.now c.loop-next.at here (λ k. omega (arith, c.type_inv.bytes k))) c.word_at.ensures);
    }
