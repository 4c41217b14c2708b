use Rattle.std.proofs.Common.{refl}
use Rattle.fixed_decimal.proofs.UnitsLemmas.{counted_few}
use Rattle.fixed_decimal.proofs.units.count_of_few_places.Goals as goal

pub returns : goal.returns
returns c =
    let h = c.part_of_few_places-part.ensures in
    counted_few c.args.whole c.args.fraction c.args.places c.args.n c.part_of_few_places-part.result.0 h.0 _ h.1 h.2 c.raised.ensures.sum refl
