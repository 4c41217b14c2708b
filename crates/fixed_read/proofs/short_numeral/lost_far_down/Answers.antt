use Rattle.std.proofs.Common.{arith}
use Rattle.fixed_read.proofs.ShortNumeralLemmas.{far_below}
use Rattle.fixed_read.proofs.short_numeral.lost_far_down.Goals as goal

pub returns-else-digits-eq0 : goal.returns-else-digits-eq0
returns-else-digits-eq0 c = (omega arith, far_below c.args.digits c.args.by (omega arith) (omega arith))
