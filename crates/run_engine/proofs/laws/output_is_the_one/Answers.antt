use Rattle.line_engine.proofs.Public.{output_one}
use Rattle.run_engine.proofs.laws.output_is_the_one.Goals as goal

pub returns : goal.returns
returns g c = output_one (g.R.Rule.Answers c.args._rule.now) (g.met.R.Rule.one_law c.args._rule.now)
