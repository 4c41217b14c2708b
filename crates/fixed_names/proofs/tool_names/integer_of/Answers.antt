use Rattle.std.proofs.Common.{sym, ◌∙◌, arith}
use Rattle.fixed_names.proofs.ToolNameLemmas.{no_digits, no_zero}
use Rattle.fixed_names.proofs.tool_names.integer_of.Goals as goal

pub returns-in_default : goal.returns-in_default
returns-in_default c z small is =
    let found = c.in-Some-count_of.ensures in
    no_zero c.in-Some.digits.now c.in-Some-count_of.size z (omega (arith, c.if-size-gt0.false)) found.1 small (sym c.in-Some.ensures ∙ is)

pub returns-in_default-2 : goal.returns-in_default-2
returns-in_default-2 c z small is = no_digits c.in-Some.digits.now z c.in_default.ensures small (sym c.in-Some.ensures ∙ is)
