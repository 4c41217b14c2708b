use Rattle.std.proofs.Common.{◌≡◌, ◌-◌, ◌*◌, ◌^◌, ◌∙◌, ap, sym}
use Rattle.fixed_bits.specs.LostFractions.{IsLostFraction}
use Rattle.fixed_decimal.proofs.UnitsLemmas.{scaled_room}
use Rattle.fixed_decimal.proofs.units.part_of_few_places.Goals as goal

pub with_zeros-requires-clause-room : goal.with_zeros-requires-clause-room
with_zeros-requires-clause-room c = rw c.saturating_sub-2.ensures (scaled_room c.args.fraction c.args.places c.args.n c.requires.fraction c.requires.places c.requires.n)

pub returns : goal.returns
returns c =
    let unit : c.power-unit.result ≡ 10 ^ (c.args.places - c.args.n) = c.power-unit.ensures.power ∙ ap (λ i. 10 ^ i) c.saturating_sub.ensures in
    let scaled : c.with_zeros.result ≡ c.args.fraction * 10 ^ (c.args.n - c.args.places) = c.with_zeros.ensures ∙ ap (λ i. c.args.fraction * 10 ^ i) c.saturating_sub-2.ensures in
    let lost : IsLostFraction c.lost_fraction.result c.divided-part.result.1 (10 ^ (c.args.places - c.args.n)) = rw (c.from.ensures, c.from-2.ensures, unit) at c.lost_fraction.ensures in
    (c.divided-part.result.1, sym scaled ∙ (rw unit at c.divided-part.ensures.split), lost)
