use Rattle.fixed_bits.proofs.LostLemmas.{rounds_as_quarters}
use Rattle.fixed_bits.proofs.rounding.rounding_increment.Goals as goal

pub returns-clause-to : goal.returns-clause-to
returns-clause-to c q s den some odd lost =
    let quarters = rw c.quarters_of.ensures at (c.share_increment.ensures.to q odd) in
    rounds_as_quarters c.args.mode c.args.lost q s den c.share_increment.result some lost quarters
