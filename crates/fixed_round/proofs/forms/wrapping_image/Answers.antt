use Rattle.std.proofs.Common.{◌≡◌, ◌∙◌, ap}
use Rattle.std.specs.Int.{w128}
use Rattle.std.proofs.lemmas.Int.{to_z-of_z}
use Rattle.fixed_round.proofs.forms.wrapping_image.Goals as goal

pub returns : goal.returns
returns g c =
    let e : c.wrap.result ≡ g.I.Inner.wrapped c.args.v = c.wrap.ensures ∙ ap g.I.Inner.wrapped (to_z-of_z w128 c.args.v c.ranges.v) in
    rw e (g.met.I.Inner.wrap_law c.args.v)
