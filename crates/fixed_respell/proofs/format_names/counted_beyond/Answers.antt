use Rattle.std.proofs.Common.{arith}
use Rattle.fixed_respell.proofs.FormatNameLemmas.{beyond_found, none_missing}
use Rattle.fixed_respell.proofs.format_names.counted_beyond.Goals as goal

pub returns-then-missing-eq0 : goal.returns-then-missing-eq0
returns-then-missing-eq0 c f is =
    let counts = c.in-Some.ensures in
    none_missing c.args.signed c.in-Some.missing c.in-Some.frac counts.2.0 c.args.rest.now c.if-missing-eq0.true counts.0 counts.1 counts.2.1 counts.2.2 f is

pub returns : goal.returns
returns c =
    let counts = c.in-Some.ensures in
    beyond_found c.args.signed c.in-Some.missing c.in-Some.frac c.saturating_sub.result counts.2.0 c.args.rest.now c.of_any_width.result c.saturating_sub.ensures (omega (arith, c.if-missing-eq0.false)) counts.0 counts.1 counts.2.1 counts.2.2 c.of_any_width.ensures.exists c.of_any_width.ensures.parts
