use Rattle.fixed_float.proofs.NearestLemmas.{grown_is}
use Rattle.fixed_float.proofs.nearest.grown_significand.Goals as goal

pub returns : goal.returns
returns c = grown_is c.args.precision c.args.magnitude c.args.length c.requires.precision c.requires.length c.requires.short
