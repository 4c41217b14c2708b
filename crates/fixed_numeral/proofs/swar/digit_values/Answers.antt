use Rattle.fixed_numeral.proofs.LaneLemmas.{values_are}
use Rattle.fixed_numeral.proofs.swar.digit_values.Goals as goal

pub returns : goal.returns
returns c bs eight plain e = rw e (rw eight at (values_are bs plain))
