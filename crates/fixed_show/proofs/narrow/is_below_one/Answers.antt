use Rattle.std.proofs.Common.{arith}
use Rattle.fixed_show.proofs.NarrowLemmas.{power_fits}
use Rattle.fixed_show.proofs.narrow.is_below_one.Goals as goal

pub pow-requires : goal.pow-requires
pow-requires c = power_fits 10 c.args.error.places (omega arith) c.if-error-le38.true
