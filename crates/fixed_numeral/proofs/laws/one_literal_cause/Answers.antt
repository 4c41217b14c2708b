use Rattle.fixed_numeral.proofs.LawLemmas.{one_literal_cause}
use Rattle.fixed_numeral.proofs.laws.one_literal_cause.Goals as goal

pub returns : goal.returns
returns c = one_literal_cause
