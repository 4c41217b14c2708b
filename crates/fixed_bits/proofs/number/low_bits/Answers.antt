use Rattle.std.proofs.Common.{bit_and, ap, ◌∙◌}
use Rattle.std.proofs.lemmas.Nat.{and_mask}
use Rattle.fixed_bits.proofs.number.low_bits.Goals as goal

pub returns-clause-bits : goal.returns-clause-bits
returns-clause-bits c = ap (bit_and c.args.magnitude) c.ones.ensures.ones ∙ and_mask c.args.magnitude c.args.format.width
