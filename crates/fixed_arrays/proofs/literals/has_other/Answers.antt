use Rattle.std.proofs.Common.{rules, ◌≡◌, ◌↔◌, IsTrue, false, refl}
use Rattle.fixed_arrays.proofs.LiteralLemmas.{no_other, other_by}
use Rattle.fixed_arrays.proofs.literals.has_other.Goals as goal

pub returns-in-Some : goal.returns-in-Some
returns-in-Some c =
    let is : IsTrue c.ne.result ↔ (c.in-Some.other ≡ c.args.format → ⊥) = search rules in
    other_by c.args.line.now c.args.format c.in-Some.other c.ne.result c.in-Some.ensures is

pub returns-in-None : goal.returns-in-None
returns-in-None c = no_other c.args.line.now c.args.format false c.in-None.ensures refl
