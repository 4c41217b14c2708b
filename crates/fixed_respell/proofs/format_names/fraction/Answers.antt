use Rattle.fixed_respell.proofs.FormatNameLemmas.{fraction_found}
use Rattle.fixed_respell.proofs.format_names.fraction.Goals as goal

pub returns-in-Some : goal.returns-in-Some
returns-in-Some c = fraction_found c.in-Some.frac c.args.rest.now c.of_any_width.result c.in-Some.ensures.0 c.in-Some.ensures.1 c.of_any_width.ensures.exists c.of_any_width.ensures.parts
