use Rattle.std.proofs.Common.{◌≡◌, ◌∙◌, ap, arith}
use Rattle.std.specs.Int.{w128}
use Rattle.std.proofs.lemmas.Int.{ints, to_z-of_z}
use Rattle.fixed_bits.specs.Ranges.{IsInRange}
use Rattle.fixed_bits.proofs.ImageLemmas.{type_width, wrapped_same, saturated_inside}
use Rattle.fixed_bits.proofs.inner.Inner.saturate.Goals as goal

pub returns-else-v-high : goal.returns-else-v-high
returns-else-v-high g c =
    let I = g.Self.Inner in
    let e : c.wrap.result ≡ I.wrapped c.args.v = c.wrap.ensures ∙ ap I.wrapped (to_z-of_z w128 c.args.v c.ranges.v) in
    let low = c.ends-low.ensures.low in
    let high = c.ends-low.ensures.high in
    let inside : IsInRange I.SIGNED I.BITS c.args.v = record { low = omega (arith, ints); high = omega (arith, ints) } in
    saturated_inside I.SIGNED I.BITS c.args.v (I.number c.wrap.result) inside
    (rw e (wrapped_same I.SIGNED I.BITS c.args.v (I.number (I.wrapped c.args.v)) (type_width I.BITS g.met.Self.Inner.width_law) inside (g.met.Self.Inner.wrap_law c.args.v)))
