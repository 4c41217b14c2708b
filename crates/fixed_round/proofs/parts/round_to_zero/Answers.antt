use Rattle.std.proofs.Common.{rules, ◌≡◌, ◌∙◌, FitsSigned}
use Rattle.std.specs.Int.{w128}
use Rattle.std.proofs.lemmas.Int.{to_z-of_z}
use Rattle.fixed_round.specs.Parts.{round_to_zero_bits}
use Rattle.fixed_round.proofs.PartLemmas.{round_to_zero_fits}
use Rattle.fixed_round.proofs.parts.round_to_zero.Given.{Over}
use Rattle.fixed_round.proofs.parts.round_to_zero.Goals as goal
use Rattle.fixed_round.proofs.parts.round_to_zero.Goals.{After-towards_zero}

cut_is : (g : Over) (c : After-towards_zero g) → c.towards_zero.result ≡ round_to_zero_bits (g.I.Inner.number c.args.bits) c.args.frac_nbits
cut_is g c =
    let v : FitsSigned w128 c.value.result = search rules in
    rw (to_z-of_z w128 c.value.result v, c.value.ensures.number) at c.towards_zero.ensures

pub in_range-requires : goal.in_range-requires
in_range-requires g c =
    let f : FitsSigned w128 c.towards_zero.result = search rules in
    rw (to_z-of_z w128 c.towards_zero.result f, cut_is g c) (round_to_zero_fits g.I.Inner.SIGNED g.I.Inner.BITS (g.I.Inner.number c.args.bits) c.args.frac_nbits c.value.ensures.range)

pub returns : goal.returns
returns g c =
    let f : FitsSigned w128 c.towards_zero.result = search rules in
    c.in_range.ensures ∙ to_z-of_z w128 c.towards_zero.result f ∙ cut_is g c.before
