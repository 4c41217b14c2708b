use Rattle.std.proofs.Common.{rules, FitsSigned}
use Rattle.std.specs.Int.{w128}
use Rattle.std.proofs.lemmas.Int.{to_z-of_z}
use Rattle.fixed_bits.proofs.Public.{image_within}
use Rattle.fixed_arrays.proofs.elements.element_of.Goals as goal

pub returns-in-Ok-clause-range : goal.returns-in-Ok-clause-range
returns-in-Ok-clause-range g c =
    let n = c.args.numerals.now in
    let read = c.in-Ok.ensures.read in
    let fits : FitsSigned w128 c.in-Ok.found.bits = search rules in
    rw (to_z-of_z w128 c.in-Ok.found.bits fits) (image_within n.policy n.format.signed n.format.width read.number c.in-Ok.found.bits read.image).0
