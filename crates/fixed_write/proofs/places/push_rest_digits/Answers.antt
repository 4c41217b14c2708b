use Rattle.std.proofs.Common.{arith, rules, add-one, ◌<◌}
use Rattle.fixed_write.proofs.RestLemmas.{digits_none, digits_more, digits_length, rest_digit}
use Rattle.fixed_write.proofs.places.push_rest_digits.Goals as goal

pub digits-init : goal.digits-init
digits-init g c = digits_none _ _ _ _ c.ranges.rest.fits

pub push_digit-requires : goal.push_digit-requires
push_digit-requires g c =
    let below : c.scaled-digit.result.0 < g.row.BASE = rest_digit g.row.BASE _ _ _ _ _ _ _ (omega (arith, c.requires.low)) c.digits.invariant c.scaled-digit.ensures.whole in
    (search rules, (omega (arith, c.requires.high), omega (arith, digits_length _ _ _ _ _ _ _ c.digits.invariant, c.requires.room)))

pub digits-preserved : goal.digits-preserved
digits-preserved g c =
    rw add-one (digits_more _ _ _ _ _ _ _ _ _ _ (omega (arith, c.requires.low)) c.digits.invariant c.scaled-digit.ensures.whole c.scaled-digit.ensures.rest c.push_digit.ensures)
