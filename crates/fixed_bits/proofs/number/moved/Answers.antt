use Rattle.fixed_bits.proofs.NumberLemmas.{moved_either}
use Rattle.fixed_bits.proofs.number.moved.Goals as goal

pub returns-clause-value : goal.returns-clause-value
returns-clause-value c =
    rw (moved_either c.args.negative c.args.magnitude c.floored_magnitude-whole.result c.args.from c.args.to (rw c.saturating_sub.ensures at c.floored_magnitude-whole.ensures)) (rw (c.grown_magnitude.ensures, c.saturating_sub-2.ensures) at c.new.ensures.value)
