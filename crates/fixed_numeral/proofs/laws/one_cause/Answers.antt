use Rattle.fixed_numeral.proofs.LawLemmas.{one_cause}
use Rattle.fixed_numeral.proofs.laws.one_cause.Goals as goal

pub returns : goal.returns
returns c = one_cause
