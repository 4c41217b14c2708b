use Rattle.std.proofs.Common.{◌+◌, ◌∙◌, arith, sym}
use Rattle.std.proofs.lemmas.Fmt.{decimal_injective}
use Rattle.fixed.proofs.commands.column_words.place_numbered.Goals as goal

pub returns-in_default : goal.returns-in_default
returns-in_default c at fits e =
    omega (arith, decimal_injective c.in-Some.number (at + 1) (omega arith) (omega arith) (sym c.in-Some.ensures ∙ e))
