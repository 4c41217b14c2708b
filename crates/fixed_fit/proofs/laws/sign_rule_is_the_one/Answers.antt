use Rattle.fixed_fit.proofs.FittingLemmas.{sign_rule_is_the_one}
use Rattle.fixed_fit.proofs.laws.sign_rule_is_the_one.Goals as goal

pub returns : goal.returns
returns c = sign_rule_is_the_one
