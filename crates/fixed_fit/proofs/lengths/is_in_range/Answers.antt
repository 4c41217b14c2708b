use Rattle.fixed_fit.proofs.FittingLemmas.{exceeds_by, fits_by}
use Rattle.fixed_fit.proofs.lengths.is_in_range.Goals as goal

pub returns-clause-fits : goal.returns-clause-fits
returns-clause-fits g c = λ is. fits_by c.args.radix c.args.line.now c.args.format c.in-Ok.found c.is_out_of_range.result c.requires c.in-Ok.ensures.format c.in-Ok.ensures.reading.read c.is_out_of_range.ensures.range is

pub returns-clause-exceeds : goal.returns-clause-exceeds
returns-clause-exceeds g c = λ is. exceeds_by c.args.radix c.args.line.now c.args.format c.in-Ok.found c.is_out_of_range.result c.requires c.in-Ok.ensures.format c.in-Ok.ensures.reading.read c.is_out_of_range.ensures.range is
