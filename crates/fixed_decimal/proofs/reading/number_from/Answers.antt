use Rattle.fixed_decimal.proofs.ReadingLemmas.{reading_from}
use Rattle.fixed_decimal.proofs.reading.number_from.Goals as goal

pub returns-clause-reading : goal.returns-clause-reading
returns-clause-reading c mode p sign own = reading_from mode p c.args.negative c.args.format c.args.units c.new.result c.new.ensures.number c.new.ensures.format c.new.ensures.exact sign own
