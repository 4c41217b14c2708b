use Rattle.std.proofs.Common.{ap}
use Rattle.fixed_float.proofs.ReadingLemmas.{whole_reading}
use Rattle.fixed_float.proofs.reading.read_whole.Goals as goal

pub returns-clause-reading : goal.returns-clause-reading
returns-clause-reading c mode unit up = whole_reading mode c.args.fields c.args.format.frac unit c.args.up c.min.result c.multiple-magnitude.result c.signed.result c.new.result up c.min.ensures c.multiple-magnitude.ensures.multiple
    c.signed.ensures.sign c.signed.ensures.low c.new.ensures.number (ap (λ f. f.frac) c.new.ensures.format) c.new.ensures.exact
