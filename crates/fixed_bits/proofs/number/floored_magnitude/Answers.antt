use Rattle.std.proofs.Common.{inl, inr, arith}
use Rattle.fixed_bits.proofs.NumberLemmas.{floored, floored_below}
use Rattle.fixed_bits.proofs.number.floored_magnitude.Goals as goal
use Rattle.fixed_bits.proofs.number.floored_magnitude.Goals.{else-negative-via-then-negative+else-rest-gt0, else-negative-via-else-negative}

pub returns-then-rest-gt0 : goal.returns-then-rest-gt0
returns-then-rest-gt0 c =
    let s = c.split_low_bits-whole in
    rw c.if-negative.true (floored_below c.args.magnitude c.args.k s.result.0 s.result.1 s.ensures.whole s.ensures.rest (omega (arith, c.if-rest-gt0.true)))

pub returns-else-negative : goal.returns-else-negative
returns-else-negative c =
    let s = c.split_low_bits-whole in
    floored c.args.negative c.args.magnitude c.args.k s.result.0 s.result.1 s.ensures.whole s.ensures.rest (elim c.else-negative.branch [
      | else-negative-via-then-negative+else-rest-gt0 w ↦ inr (omega (arith, w.if-rest-gt0.false))
      | else-negative-via-else-negative w ↦ inl w.if-negative.false
    ])
