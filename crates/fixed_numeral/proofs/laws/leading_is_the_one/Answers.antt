use Rattle.fixed_numeral.proofs.LeadingLemmas.{leading_one}
use Rattle.fixed_numeral.proofs.laws.leading_is_the_one.Goals as goal

pub returns : goal.returns
returns c = leading_one
