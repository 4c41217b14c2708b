use Rattle.fixed_show.proofs.NarrowLemmas.{one_zero_more, trimmed_more}
use Rattle.fixed_show.proofs.narrow.+trimmed.Goals as goal

pub returns-then-number-eq0-clause-zeros : goal.returns-then-number-eq0-clause-zeros
returns-then-number-eq0-clause-zeros t c = one_zero_more c.args.number c.args.places c.trimmed.result.1 c.if-places-gt0.true c.if-number-eq0.true c.trimmed.ensures.within c.trimmed.ensures.zeros

pub returns-then-number-eq0-clause-number : goal.returns-then-number-eq0-clause-number
returns-then-number-eq0-clause-number t c = trimmed_more c.args.number c.args.places c.trimmed.result.1 c.trimmed.result.0 c.if-places-gt0.true c.trimmed.ensures.within c.trimmed.ensures.number
