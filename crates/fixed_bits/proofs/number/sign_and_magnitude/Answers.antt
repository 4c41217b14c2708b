use Rattle.std.specs.Int.{w128}
use Rattle.std.proofs.lemmas.Int.{to_z-of_z}
use Rattle.fixed_bits.proofs.NumberLemmas.{sign_and_magnitude}
use Rattle.fixed_bits.proofs.number.sign_and_magnitude.Goals as goal

pub returns-clause-value : goal.returns-clause-value
returns-clause-value c = rw (c.unsigned_abs.ensures.value, to_z-of_z w128 c.args.v c.ranges.v) (sign_and_magnitude c.args.v)
