use Rattle.fixed_show.proofs.NarrowLemmas.{narrow_is}
use Rattle.fixed_show.proofs.narrow.narrow_numeral.Goals as goal

pub returns-in-Some-clause-value : goal.returns-in-Some-clause-value
returns-in-Some-clause-value g c =
    let found = c.in-Some.found in
    let said = c.narrow_of.ensures in
    narrow_is c.args.radix c.args.text.now found.negative found.whole found.fraction found.places found.exponent found.scales_by_two c.narrow_of.result c.in-Dec.is c.in-Some.ensures.parts said.number said.places said.sign said.flat
