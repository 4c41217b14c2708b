use Rattle.line_engine.proofs.Public.{run_end_one}
use Rattle.run_engine.proofs.laws.run_end_is_the_one.Goals as goal

pub returns : goal.returns
returns g c = run_end_one (g.R.Rule.Answers c.args._rule.now) (g.met.R.Rule.one_law c.args._rule.now)
