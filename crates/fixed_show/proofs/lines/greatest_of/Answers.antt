use Rattle.std.proofs.Common.{ℤ, FitsSigned, rules}
use Rattle.std.specs.Int.{w128}
use Rattle.std.proofs.lemmas.Int.{to_z-of_z}
use Rattle.fixed_show.proofs.FormatLemmas.{greatest_some}
use Rattle.fixed_show.proofs.lines.greatest_of.Goals as goal

pub returns-clause-some : goal.returns-clause-some
returns-clause-some c =
    let r : ℤ = c.greatest.result in
    let fit : FitsSigned w128 r = search rules in
    rw (to_z-of_z w128 r fit, c.greatest.ensures) (greatest_some c.args.format.signed c.args.format.width)
