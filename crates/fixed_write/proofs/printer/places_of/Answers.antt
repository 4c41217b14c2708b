use Rattle.fixed_write.proofs.PaddedLemmas.{scale_low, scale_high}
use Rattle.fixed_write.proofs.printer.places_of.Goals as goal

pub returns-clause-low : goal.returns-clause-low
returns-clause-low c = scale_low c.args.frac c.requires

pub returns-clause-high : goal.returns-clause-high
returns-clause-high c = scale_high c.args.frac c.requires
