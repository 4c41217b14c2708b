use Rattle.std.proofs.Common.{◌^◌, ◌<◌, arith, subst, sym}
use Rattle.fixed_show.proofs.NarrowLemmas.{power_fits}
use Rattle.fixed_show.proofs.narrow.times_power.Goals as goal

pub pow-requires : goal.pow-requires
pow-requires c = subst (λ b. b ^ c.args.exponent < 2 ^ 128) (sym c.from.ensures) (power_fits c.args.base c.args.exponent c.requires.most (omega (arith, c.if-exponent-gt38.false)))
