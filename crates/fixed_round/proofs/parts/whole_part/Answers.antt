use Rattle.std.proofs.Common.{rules, ◌≡◌, ◌∙◌, sym, FitsSigned, ◌-ℤ◌, to_z, of_z}
use Rattle.std.specs.Int.{w128}
use Rattle.std.proofs.lemmas.Int.{to_z-of_z}
use Rattle.fixed_bits.proofs.Public.{in_wide, type_width, width_most}
use Rattle.fixed_round.specs.Parts.{int_bits}
use Rattle.fixed_round.proofs.PartLemmas.{int_none, int_floor, int_fits, rest_fits}
use Rattle.fixed_round.proofs.parts.whole_part.Given.{Over}
use Rattle.fixed_round.proofs.parts.whole_part.Goals as goal
use Rattle.fixed_round.proofs.parts.whole_part.Goals.{After-whole_of}

pub returns-then-frac_nbits-BITS-clause-number : goal.returns-then-frac_nbits-BITS-clause-number
returns-then-frac_nbits-BITS-clause-number g c = sym (int_none g.I.Inner.BITS (g.I.Inner.number c.args.bits) c.args.frac_nbits (c.if-frac_nbits-BITS.true ∙ c.BITS.ensures))

pub returns-then-frac_nbits-BITS-clause-rest : goal.returns-then-frac_nbits-BITS-clause-rest
returns-then-frac_nbits-BITS-clause-rest g c =
    let b = g.I.Inner.number c.args.bits in
    rw (int_none g.I.Inner.BITS b c.args.frac_nbits (c.if-frac_nbits-BITS.true ∙ c.BITS.ensures)) at (rest_fits g.I.Inner.SIGNED g.I.Inner.BITS b c.args.frac_nbits c.requires c.value-b.ensures.range)

-- the floor is the whole part
floor_is : (g : Over) (c : After-whole_of g) → to_z w128 (of_z w128 c.whole_of.result) ≡ int_bits g.I.Inner.BITS (g.I.Inner.number c.args.bits) c.args.frac_nbits
floor_is g c =
    let v : FitsSigned w128 c.value-b.result = search rules in
    let w : FitsSigned w128 c.whole_of.result = search rules in
    to_z-of_z w128 c.whole_of.result w
    ∙ (rw (to_z-of_z w128 c.value-b.result v, c.value-b.ensures.number) at c.whole_of.ensures)
    ∙ sym (int_floor g.I.Inner.BITS (g.I.Inner.number c.args.bits) c.args.frac_nbits (λ e. c.if-frac_nbits-BITS.false (e ∙ sym c.BITS.ensures)))

pub returns-else-frac_nbits-BITS-clause-number : goal.returns-else-frac_nbits-BITS-clause-number
returns-else-frac_nbits-BITS-clause-number g c = floor_is g c

pub returns-else-frac_nbits-BITS-clause-range : goal.returns-else-frac_nbits-BITS-clause-range
returns-else-frac_nbits-BITS-clause-range g c =
    rw (floor_is g c) (int_fits g.I.Inner.SIGNED g.I.Inner.BITS (g.I.Inner.number c.args.bits) c.args.frac_nbits c.requires (λ e. c.if-frac_nbits-BITS.false (e ∙ sym c.BITS.ensures)) c.value-b.ensures.range)

pub returns-else-frac_nbits-BITS-clause-rest : goal.returns-else-frac_nbits-BITS-clause-rest
returns-else-frac_nbits-BITS-clause-rest g c =
    rw (floor_is g c) (rest_fits g.I.Inner.SIGNED g.I.Inner.BITS (g.I.Inner.number c.args.bits) c.args.frac_nbits c.requires c.value-b.ensures.range)

pub returns-else-frac_nbits-BITS-clause-wide : goal.returns-else-frac_nbits-BITS-clause-wide
returns-else-frac_nbits-BITS-clause-wide g c =
    in_wide g.I.Inner.SIGNED g.I.Inner.BITS (to_z w128 (of_z w128 c.whole_of.result)) (width_most g.I.Inner.BITS (type_width g.I.Inner.BITS g.met.I.Inner.width_law))
    (rw (floor_is g c) (int_fits g.I.Inner.SIGNED g.I.Inner.BITS (g.I.Inner.number c.args.bits) c.args.frac_nbits c.requires (λ e. c.if-frac_nbits-BITS.false (e ∙ sym c.BITS.ensures)) c.value-b.ensures.range))
