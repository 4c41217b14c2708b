use Rattle.std.specs.Int.{w128}
use Rattle.std.proofs.lemmas.Int.{to_z-of_z}
use Rattle.fixed_bits.proofs.NumberLemmas.{sign_and_magnitude}
use Rattle.fixed_bits.proofs.number.Number.of.Goals as goal

pub returns-clause-value : goal.returns-clause-value
returns-clause-value c =
    let read = rw (c.unsigned_abs.ensures.value, to_z-of_z w128 c.args.v c.ranges.v) at c.new.ensures.value in
    rw (sign_and_magnitude c.args.v) at read
