use Rattle.fixed_write.proofs.PaddedLemmas.{half_is}
use Rattle.fixed_write.proofs.printer.half_ulp.Goals as goal

pub returns-else-frac-eq64 : goal.returns-else-frac-eq64
returns-else-frac-eq64 c = half_is c.args.scale c.args.frac c.requires.frac c.if-frac-eq64.false c.requires.scale
