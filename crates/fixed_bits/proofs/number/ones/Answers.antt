use Rattle.fixed_bits.proofs.NumberLemmas.{ones_are}
use Rattle.fixed_bits.proofs.number.ones.Goals as goal

pub returns-clause-ones : goal.returns-clause-ones
returns-clause-ones c = rw c.width.ensures.width (ones_are c.args.format.width c.width.ensures.valid.is_width)
