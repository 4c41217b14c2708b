use Rattle.fixed_command.proofs.RunLawLemmas.{whole_run_one}
use Rattle.fixed_command.proofs.laws.whole_run_is_the_one.Goals as goal

pub returns : goal.returns
returns g c = whole_run_one (g.R.WholeRule.Answers c.args._rule.now) (g.met.R.WholeRule.one_law c.args._rule.now)
