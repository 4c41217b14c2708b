use Rattle.std.proofs.Common.{◌≡◌, arith}
use Rattle.std.proofs.lemmas.Grind.{common_steps}
use Rattle.fixed_fit.proofs.FittingLemmas.{not_lowered, some_lowered}
use Rattle.fixed_fit.proofs.lengths.lowered.Goals as goal

pub returns-then-count-before : goal.returns-then-count-before
returns-then-count-before g c =
    let same : c.count_left-count.result ≡ c.args.lengths.now.count = grind (arith, common_steps, c.if-count-before.true) in
    not_lowered c.args.radix c.args.line.now c.args.place c.args.lengths.now c.count_left-count.result same c.count_left-count.ensures.fits

pub returns : goal.returns
returns g c = some_lowered c.args.radix c.args.line.now c.args.place c.args.lengths.now c.count_left-count.result c.count_left-count.ensures.fewer (grind (arith, common_steps, c.if-count-before.false)) c.count_left-count.ensures.fits c.count_left-count.ensures.exceeds
