use Rattle.std.proofs.Common.{rules}
use Rattle.fixed_bits.specs.Formats.{IsTypeFormat}
use Rattle.fixed_command.proofs.RenamedLemmas.{no_type}
use Rattle.fixed_command.proofs.renamed.type_named.Goals as goal

pub returns-in-None : goal.returns-in-None
returns-in-None c =
    let g = c.in-Some.format in
    let none : IsTypeFormat g.width g.frac → ⊥ = search rules in
    no_type c.args.word.now g c.in-Some.ensures none
