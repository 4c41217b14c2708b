use Rattle.std.proofs.Common.{arith}
use Rattle.std.proofs.lemmas.Int.{ints}
use Rattle.fixed_convert.proofs.RepresentativeLemmas.{represents_above, represents_below}
use Rattle.fixed_convert.proofs.floored.Floored.representative.Goals as goal

pub returns-then-self-gt0 : goal.returns-then-self-gt0
returns-then-self-gt0 c = represents_above c.args.self.bits c.args.self.shift (omega arith) (omega (arith, ints))

pub returns-then-self-lt0 : goal.returns-then-self-lt0
returns-then-self-lt0 c = represents_below c.args.self.bits c.args.self.shift (omega arith) (omega (arith, ints))
