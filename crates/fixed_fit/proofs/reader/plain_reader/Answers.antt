use Rattle.std.proofs.Common.{◌≡◌, [], false, true}
use Rattle.fixed_fit.specs.declared.question.Widths.TheVariants.{One}
use Rattle.fixed_fit.proofs.reader.plain_reader.Goals as goal

pub returns-in-Ok : goal.returns-in-Ok
returns-in-Ok c = c.in-Ok.ensures false false [] One c.args.width c.none.ensures (λ (is : false ≡ true). cc)
