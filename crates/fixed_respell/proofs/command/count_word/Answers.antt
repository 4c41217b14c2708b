use Rattle.std.proofs.Common.{arith, sym, ◌∙◌}
use Rattle.std.proofs.lemmas.Fmt.{decimal_injective}
use Rattle.fixed_respell.proofs.command.count_word.Goals as goal

pub returns-in_default-clause-number : goal.returns-in_default-clause-number
returns-in_default-clause-number c n some most is =
    omega (arith, some, decimal_injective n c.in-Some.number (omega arith) (omega arith) (sym is ∙ c.in-Some.ensures.number))
