use Rattle.std.proofs.Common.{rules, ◌≡◌, ◌++◌, [], replicate}
use Rattle.fixed_write.specs.Styled.{pointed, exponent_text}
use Rattle.fixed_write.proofs.FigureLemmas.{exponent_body}
use Rattle.fixed_write.proofs.exponent.push_exponent_body.Goals as goal

pub returns-clause-body : goal.returns-clause-body
returns-clause-body c =
    let digits : c.push_pointed.new.out ++ replicate c.push_figures-zeros.result.0 48 ≡ [] ++ pointed (c.push_figures-zeros.new.out ++ replicate c.push_figures-zeros.result.0 48) = rw (c.requires.empty, c.as_bytes.ensures.value) at c.push_pointed.ensures in
    let tail : c.push_tail.new.tail ≡ exponent_text c.args.notation c.push_figures-zeros.result.1 = search (rules, c.push_tail.ensures) in
    exponent_body _ _ _ _ _ _ _ _ _ c.push_figures-zeros.ensures.figures digits tail
