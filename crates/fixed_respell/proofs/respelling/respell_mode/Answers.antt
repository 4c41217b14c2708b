use Rattle.std.proofs.Common.{FitsSigned, rules}
use Rattle.std.specs.Int.{w128}
use Rattle.std.proofs.lemmas.Int.{to_z-of_z}
use Rattle.fixed_respell.proofs.respelling.respell_mode.Goals as goal

pub shortest-requires-clause-wide : goal.shortest-requires-clause-wide
shortest-requires-clause-wide g c =
    let fit : FitsSigned w128 c.number-number.result = search rules in
    rw (to_z-of_z w128 c.number-number.result fit, c.number-number.ensures) c.in_ok-image.ensures.wide
