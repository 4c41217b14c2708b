use Rattle.fixed_respell.proofs.FormatNameLemmas.{within_found}
use Rattle.fixed_respell.proofs.format_names.counted_within.Goals as goal

pub returns-in-Some : goal.returns-in-Some
returns-in-Some c =
    let counts = c.in-Some.ensures in
    within_found c.args.signed c.in-Some.whole c.in-Some.frac counts.2.0 c.args.rest.now c.of_any_width.result counts.0 counts.1 counts.2.1 counts.2.2 c.of_any_width.ensures.exists c.of_any_width.ensures.parts
