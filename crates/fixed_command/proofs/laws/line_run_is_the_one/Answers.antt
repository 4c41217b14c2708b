use Rattle.fixed_command.proofs.RunLawLemmas.{line_run_one}
use Rattle.fixed_command.proofs.laws.line_run_is_the_one.Goals as goal

pub returns : goal.returns
returns g c = line_run_one (g.R.Rule.Answers c.args._rule.now) (g.met.R.Rule.one_law c.args._rule.now)
