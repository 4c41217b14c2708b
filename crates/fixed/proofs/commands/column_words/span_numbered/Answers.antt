use Rattle.std.proofs.Common.{◌+◌, ◌∙◌, arith, sym}
use Rattle.std.proofs.lemmas.Fmt.{decimal_injective}
use Rattle.fixed.proofs.commands.column_words.span_numbered.Goals as goal

pub returns-else-from-to : goal.returns-else-from-to
returns-else-from-to c r s =
    let from = c.in_ok-from.ensures in
    let to = c.in_ok-to.ensures in
    omega (
      arith,
      decimal_injective (c.in_ok-from.from + 1) (r.from + 1) (omega (arith, from.0)) (omega arith)
          (sym from.1 ∙ s.first_is),
      decimal_injective (c.in_ok-to.to + 1) (r.to + 1) (omega (arith, to.0)) (omega arith) (sym to.1 ∙ s.last_is),
    )
