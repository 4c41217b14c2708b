use Rattle.fixed_report.proofs.TextLemmas.{trimmed_more}
use Rattle.fixed_report.proofs.text.+trimmed.Goals as goal

pub returns-then-number-eq0-clause-same : goal.returns-then-number-eq0-clause-same
returns-then-number-eq0-clause-same t c = trimmed_more c.args.places c.trimmed.result.1 c.trimmed.result.0 c.args.number c.if-places-gt0.true c.trimmed.ensures.within c.trimmed.ensures.same c.if-number-eq0.true
