use Rattle.std.proofs.Common.{arith}
use Rattle.std.specs.Int.{w128}
use Rattle.std.proofs.lemmas.Int.{to_z-of_z}
use Rattle.fixed_bits.proofs.MaskLemmas.{low_bits_are}
use Rattle.fixed_bits.proofs.masks.low_bits.Goals as goal

pub returns-clause-bits : goal.returns-clause-bits
returns-clause-bits c = rw (c.cast_unsigned.ensures, to_z-of_z w128 c.args.v c.ranges.v) (low_bits_are c.args.n c.args.v c.mask.result (omega arith) c.ranges.v c.mask.ensures)
