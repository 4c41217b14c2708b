use Rattle.fixed_fit.proofs.FittingLemmas.{fits_each_shorter}
use Rattle.fixed_fit.proofs.laws.fits_each_shorter.Goals as goal

pub returns : goal.returns
returns c = fits_each_shorter
