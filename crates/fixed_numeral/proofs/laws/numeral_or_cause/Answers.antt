use Rattle.fixed_numeral.proofs.LawLemmas.{numeral_or_cause}
use Rattle.fixed_numeral.proofs.laws.numeral_or_cause.Goals as goal

pub returns : goal.returns
returns c = numeral_or_cause
