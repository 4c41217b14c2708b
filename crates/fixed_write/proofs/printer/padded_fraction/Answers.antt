use Rattle.fixed_write.proofs.PaddedLemmas.{padded, cut_is}
use Rattle.fixed_write.proofs.printer.padded_fraction.Goals as goal

pub returns : goal.returns
returns c =
    let p = c.places_of-places.ensures in
    let half = rw c.power_of_ten-scale.ensures at c.half_ulp-half.ensures in
    padded _ _ _ _ _ _ _ _ _ _ _ c.requires (record { within = p.within; few = p.few; low = p.low; high = p.high })
    (cut_is _ _ _ _ _ _ _ c.requires c.power_of_ten-scale.ensures c.rest_of.ensures c.scaled-number.ensures.whole c.scaled-number.ensures.rest)
    half c.scaled-digit.ensures.whole c.scaled-digit.ensures.rest (record { near = c.nearer_digit-nearer.ensures.near; below = c.nearer_digit-nearer.ensures.below }) c.is_near_next.ensures c.is_close.ensures
