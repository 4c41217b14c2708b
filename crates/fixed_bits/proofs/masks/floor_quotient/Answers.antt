use Rattle.std.proofs.Common.{arith}
use Rattle.std.proofs.lemmas.Int.{ints}
use Rattle.fixed_bits.proofs.DownLemmas.{down_past, down_past_below}
use Rattle.fixed_bits.proofs.masks.floor_quotient.Goals as goal

pub returns-then-v-lt0 : goal.returns-then-v-lt0
returns-then-v-lt0 c = down_past_below 64 c.args.k c.args.v (omega arith) (omega (arith, ints)) (omega (arith, ints))

pub returns-else-v-lt0 : goal.returns-else-v-lt0
returns-else-v-lt0 c = down_past 64 c.args.k c.args.v (omega arith) (omega (arith, ints)) (omega (arith, ints))
