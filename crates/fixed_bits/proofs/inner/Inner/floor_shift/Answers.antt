use Rattle.std.proofs.Common.{◌≡◌, ap, ◌∙◌, rules, FitsSigned}
use Rattle.std.specs.Int.{w128}
use Rattle.std.proofs.lemmas.Int.{to_z-of_z}
use Rattle.fixed_bits.specs.Down.{IsDown}
use Rattle.fixed_bits.proofs.DownLemmas.{shift_in}
use Rattle.fixed_bits.proofs.ImageLemmas.{type_width, wrapped_same}
use Rattle.fixed_bits.proofs.inner.Inner.floor_shift.Goals as goal

pub returns : goal.returns
returns g c =
    let I = g.Self.Inner in
    let d = c.floor_quotient.result in
    let f : FitsSigned w128 d = search rules in
    let v : FitsSigned w128 c.value.result = search rules in
    let e : c.wrap.result ≡ I.wrapped d = c.wrap.ensures ∙ ap I.wrapped (to_z-of_z w128 d f) in
    let moved : IsDown (I.number c.args.self) c.args.k 0 d = rw (to_z-of_z w128 c.value.result v, c.value.ensures.number) at c.floor_quotient.ensures in
    let inside = shift_in I.SIGNED I.BITS c.args.k (I.number c.args.self) d c.value.ensures.range moved in
    rw (e, wrapped_same I.SIGNED I.BITS d (I.number (I.wrapped d)) (type_width I.BITS g.met.Self.Inner.width_law) inside (g.met.Self.Inner.wrap_law d)) moved
