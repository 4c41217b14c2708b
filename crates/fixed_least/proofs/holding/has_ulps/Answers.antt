use Rattle.std.proofs.Common.{◌≡◌, ◌*◌, ◌-◌, ◌^◌}
use Rattle.fixed_least.proofs.HoldLemmas.{holds_by}
use Rattle.fixed_least.proofs.holding.has_ulps.Goals as goal

pub returns-in-Some : goal.returns-in-Some
returns-in-Some c =
    let split : c.args.value.ulps ≡ c.in-Some.bits * 2 ^ (64 - c.args.format.frac) = rw c.frac.ensures.frac at c.in-Some.ensures in
    holds_by c.args.format c.args.value.negative c.args.value.ulps c.in-Some.bits c.fits.result split c.fits.ensures
